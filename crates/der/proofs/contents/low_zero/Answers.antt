-- `der::contents::low_zero` meets its contract. Assumes nothing.
use mathlib.Core.Path.{ap, sym}
use Prim.Native.Nat.{ℕ, ◌%◌}
use lib.Dec.{eqb}
use Rattle.der.proofs.Laws.Contents.{byte_shift, byte_mod}
use Rattle.der.proofs.contents.low_zero.Goals as goal

-- ? rem-result : tie.Need-nonzero-rem-result
-- ? rem-result c =
-- ?     let k = c.before.args.unused in
-- ?     omega (arith, byte_shift k c.if1.true, pow_pos k)
-- ?

pub returns-then-unused-lt8 : goal.returns-then-unused-lt8
returns-then-unused-lt8 c =
    let a = c.args in
    ap (λ (m : ℕ). eqb (a.b % m) 0) (byte_shift a.unused c.if-unused-lt8.true)

pub returns-else-unused-lt8 : goal.returns-else-unused-lt8
returns-else-unused-lt8 c =
    let a = c.args in
    ap (λ (m : ℕ). eqb m 0) (sym (byte_mod a.b a.unused c.ranges.b.fits c.if-unused-lt8.false))
