-- Tests of all numbers below a bound, by one computation.
--     all_below_lem      what passes for all passes for each
--     same_true      two truth values that a test finds the same
-- Assumes nothing.
use mathlib.Core.Path.{◌≡◌, refl, ap, ◌∙◌}
use mathlib.Core.Bool.{Bool, true, false, not, ◌&&◌}
use Prim.Native.Nat.{ℕ, zero, suc, ◌<◌}
use native.Mathlib.Omega.{arith}
use lib.Dec.{eqb}
use borrow.Author.Tests.{eqb-true, eqb-false}
use Rattle.octets.proofs.Laws.Tests.{and_l, and_r}

unfoldable pub all_below : (ℕ → Bool) → ℕ → Bool
all_below test zero = true
all_below test (suc n) = test n && all_below test n

pub all_below_lem : (test : ℕ → Bool) (n k : ℕ) → all_below test n ≡ true → k < n → test k ≡ true
unfolding all_below
all_below_lem test zero k e h = absurd (omega arith)
all_below_lem test (suc n) k e h = go (eqb k n) refl (all_below_lem test n k (and_r (test n) (all_below test n) e))
  where
    go : (b : Bool) → eqb k n ≡ b → (k < n → test k ≡ true) → test k ≡ true
    go true q ih = ap test (eqb-true k n q) ∙ and_l (test n) (all_below test n) e
    go false q ih = let d = eqb-false k n q in ih (omega arith)

unfoldable pub same : Bool → Bool → Bool
same true b = b
same false b = not b

pub same_true : (a b : Bool) → same a b ≡ true → a ≡ b
unfolding same
same_true true true e = refl
same_true true false e = cc
same_true false true e = cc
same_true false false e = refl
