-- `retrieval::fetch_at` meets its contract: the longest record has room on the desk. Assumes nothing.
use mathlib.Core.Path.{◌≡◌}
use Prim.Native.Nat.{ℕ}
use native.Mathlib.Omega.{arith}
use lib.ListN.{length, replicate, length-replicate}
use Rattle.reader.proofs.Laws.Found.{start_of}
use Rattle.retrieval.proofs.Laws.Fetching.{is_taken, held}
use Rattle.retrieval.proofs.fetch_at.Goals as goal

-- ? helper
long : length {A = ℕ} (replicate 16387 0) ≡ 16387
long = length-replicate {A = ℕ} 16387 0

pub overflow_add-next : goal.overflow_add-next
overflow_add-next c = omega (arith, c.parts_of.ensures, (start_of c.args.deck.now c.args.at _ _ c.requires).whole)

pub unwrap-layout-requires : goal.unwrap-layout-requires
unwrap-layout-requires c = is_taken _ _ _ _ c.requires _ long _ _ c.take_record.ensures

pub put_side-requires : goal.put_side-requires
put_side-requires c =
    let on_desk = held _ _ _ _ c.requires _ long _ _ c.take_record.ensures _ c.unwrap-layout.ensures in
    (on_desk.cut, on_desk.fits, on_desk.enough)

pub returns : goal.returns
returns c =
    let on_desk = held _ _ _ _ c.requires _ long _ _ c.take_record.ensures _ c.unwrap-layout.ensures in
    rw (← on_desk.front, ← c.parts_of.ensures) c.put_side.ensures
