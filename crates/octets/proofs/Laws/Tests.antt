-- Tests: when two say the same, and the parts of a conjunction.
--     leb_same       two comparisons that say the same
--     and_l, and_r   the parts of a conjunction that is true
-- Assumes nothing.
use mathlib.Core.Path.{◌≡◌, refl, sym}
use mathlib.Core.Bool.{Bool, true, false, ◌&&◌}
use Prim.Native.Nat.{ℕ, ◌≤◌}
use native.Mathlib.Nat.{not-le_of_lt}
use lib.Dec.{leb}
use borrow.Author.Tests.{le-leb, leb-true, leb-false}

pub and_l : (a b : Bool) → (a && b) ≡ true → a ≡ true
and_l true b e = refl
and_l false b e = e

pub and_r : (a b : Bool) → (a && b) ≡ true → b ≡ true
and_r true b e = e
and_r false b e = cc

not_le : (x y : ℕ) → (x ≤ y → ⊥) → leb x y ≡ false
not_le x y f = go (leb x y) refl
  where
    go : (t : Bool) → leb x y ≡ t → t ≡ false
    go true e = absurd (f (leb-true x y e))
    go false e = refl

pub leb_same : (a b x y : ℕ) → (a ≤ b → x ≤ y) → (x ≤ y → a ≤ b) → leb a b ≡ leb x y
leb_same a b x y f g = go (leb a b) refl
  where
    go : (t : Bool) → leb a b ≡ t → t ≡ leb x y
    go true e = sym (le-leb x y (f (leb-true a b e)))
    go false e = sym (not_le x y (λ l. not-le_of_lt (leb-false a b e) (g l)))
