use mathlib.Core.Path.{◌≡◌, refl}
use Prim.Native.Nat.{◌-◌}
use native.Mathlib.Numerals.{add-one}
use native.Mathlib.Omega.{arith}
use Rattle.reader.proofs.Laws.Gathering.{gathered, gathered_long}
use Rattle.reader.proofs.gathering.gather_inside.Goals as goal

pub loop-j-preserved : goal.loop-j-preserved
loop-j-preserved c =
    let l = c.loop-j in
    let a = c.args in
    let copy = c.copy.ensures in
    rw (add-one l.j) (
      omega arith,
      gathered_long a.deck.now a.position l.j a.desk.now _ _ (omega arith) (omega arith) l.invariant.2 copy,
      gathered a.deck.now a.position l.j a.desk.now _ _ (omega arith) (omega arith) l.invariant.2 copy,
    )
