-- `octets::bit` meets its contract: past the 64th there is no bit. Assumes nothing.
use mathlib.Core.Path.{◌≡◌}
use mathlib.Core.Bool.{false}
use Prim.Native.Nat.{ℕ, ◌/◌, ◌%◌, ◌^◌, ◌≤◌, ◌<◌}
use native.Mathlib.Nat.{div-eq_of_lt, lt_of_lt_of_le}
use lib.Pow.{pow_mono}
use lib.Dec.{eqb}
use borrow.Author.Tests.{le-ltb}
use Rattle.octets.proofs.bits.bit.Goals as goal

no_bit : (x k : ℕ) → x < 2 ^ 64 → 64 ≤ k → false ≡ eqb (x / 2 ^ k % 2) 1
no_bit x k h l = rw (div-eq_of_lt (lt_of_lt_of_le h (pow_mono l)))

pub returns-else-k-lt64 : goal.returns-else-k-lt64
returns-else-k-lt64 c = let a = c.args in rw (le-ltb a.k 64 c.if-k-lt64.false) (no_bit a.x a.k c.ranges.x.fits c.if-k-lt64.false)
