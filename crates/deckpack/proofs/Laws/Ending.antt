-- How a deck ends, by the tests that are made of its length.
--     not_below                               a length that is not below 0 is none
--     ends_unknown, ends_whole, ends_torn     the three answers
-- Assumes nothing.
use mathlib.Core.Path.{◌≡◌, refl, subst}
use mathlib.Core.Bool.{true, false}
use Prim.Native.Nat.{◌%◌, ◌<◌}
use native.Mathlib.Omega.{arith}
use lib.Dec.{T}
use lib.IntN.{ℤ, pos, negsuc, nat_abs}
use lib.Signed.{lt_z, non_neg}
use borrow.Author.Tests.{ltb-true, eq-eqb, ne_eqb}
use Rattle.deckpack.specs.Ending.{ending_of}
use Rattle.deckpack.specs.declared.appending.Ending.TheVariants.{Whole, Torn, Unknown}

pub not_below : (z : ℤ) → lt_z z (pos 0) ≡ false → T (non_neg z)
not_below (pos n) e = tt
not_below (negsuc k) e = subst T e tt

pub ends_unknown : (z : ℤ) → lt_z z (pos 0) ≡ true → Unknown ≡ ending_of z
ends_unknown (pos n) e =
    let l : n < 0 = ltb-true n 0 e in
    absurd (omega arith)
ends_unknown (negsuc k) e = refl

pub ends_whole : (z : ℤ) → T (non_neg z) → nat_abs z % 512 ≡ 0 → Whole (nat_abs z) ≡ ending_of z
ends_whole (pos n) t e = rw (eq-eqb (n % 512) 0 e)
ends_whole (negsuc k) t e = absurd t

pub ends_torn : (z : ℤ) → T (non_neg z) → (nat_abs z % 512 ≡ 0 → ⊥) → Torn (nat_abs z % 512) ≡ ending_of z
ends_torn (pos n) t f = rw (ne_eqb (n % 512) 0 f)
ends_torn (negsuc k) t f = absurd t
