-- Tests that are joined.
--     and_same                            joined as the code joins them
--     and_both, and_left, and_right       both pass exactly if the joined test does
--     and_passed, and_not_left, and_not_right     one passes, or fails
--     fits, fitting                       a number between two others
--     true_or_false, not-true, below_or_not       cases
-- Assumes nothing.
use mathlib.Core.Path.{◌≡◌, refl}
use mathlib.Core.Bool.{Bool, true, false, true≢false, ◌&&◌}
use mathlib.Core.Logic.{◌⊎◌, inl, inr}
use Prim.Native.Nat.{ℕ, ◌≤◌, ◌<◌}
use lib.Dec.{ltb}
use borrow.Author.Tests.{ltb-true, ltb-false, leb-true, le-leb}
use Rattle.blocks.specs.Tests.{◌and◌, between}

pub and_same : (a b : Bool) → (a && b) ≡ (a and b)
unfolding ◌and◌
and_same true b = refl
and_same false b = refl

pub and_both : {a b : Bool} → a ≡ true → b ≡ true → (a and b) ≡ true
unfolding ◌and◌
and_both p q = cc

pub and_left : (a b : Bool) → (a and b) ≡ true → a ≡ true
unfolding ◌and◌
and_left true b p = refl
and_left false b p = p

pub and_right : (a b : Bool) → (a and b) ≡ true → b ≡ true
unfolding ◌and◌
and_right true b p = p
and_right false b p = absurd (true≢false (cc))

pub and_not_left : {a : Bool} (b : Bool) → a ≡ false → (a and b) ≡ false
unfolding ◌and◌
and_not_left b p = cc

pub and_not_right : (a : Bool) {b : Bool} → b ≡ false → (a and b) ≡ false
unfolding ◌and◌
and_not_right true p = p
and_not_right false p = refl

pub and_passed : {a : Bool} (b : Bool) → a ≡ true → (a and b) ≡ b
unfolding ◌and◌
and_passed b p = rw p

-- a number that is between two others
pub fits : (least most n : ℕ) → between least most n ≡ true → (least ≤ n) × (n ≤ most)
unfolding between
fits least most n t = (leb-true _ _ (and_left _ _ t), leb-true _ _ (and_right _ _ t))

pub fitting : (least most n : ℕ) → least ≤ n → n ≤ most → between least most n ≡ true
unfolding between
fitting least most n h k = and_both (le-leb _ _ h) (le-leb _ _ k)

pub true_or_false : (b : Bool) → (b ≡ true) ⊎ (b ≡ false)
true_or_false true = inl refl
true_or_false false = inr refl

pub not-true : {b : Bool} → (b ≡ true → ⊥) → b ≡ false
not-true {b} = go b
  where
    go : (a : Bool) → (a ≡ true → ⊥) → a ≡ false
    go true h = absurd (h refl)
    go false h = refl

pub below_or_not : (a b : ℕ) → (a < b) ⊎ (b ≤ a)
below_or_not a b = go (ltb a b) refl
  where
    go : (t : Bool) → ltb a b ≡ t → (a < b) ⊎ (b ≤ a)
    go true e = inl (ltb-true a b e)
    go false e = inr (ltb-false a b e)
