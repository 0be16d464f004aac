-- The table of rules and document 01's table of extensions ("Rules on extensions") agree on rules 301 to 351.
--     missing_judged                         300+s
--     criticality_judged, value_judged       320+s and 340+s
-- Assumes nothing.
use mathlib.Core.Path.{◌≡◌, refl}
use mathlib.Core.List.{List}
use mathlib.Core.Bool.{Bool, true}
use Prim.Native.Nat.{ℕ, ◌+◌, ◌<◌}
use Rattle.octets.specs.Same.{same_by, exactly}
use Rattle.octets.proofs.Laws.Finite.{all_below, all_below_lem}
use Rattle.octets.proofs.Laws.Same.{same_lists}
use Rattle.profiles.specs.Extensions.{mandatory_in, listed_in}
use Rattle.profiles.specs.Judged.{judged_in, row_of}

-- so that every number from 300 to 359 is asked for
abbrev pub asked : ℕ
asked = 20

agrees : (ℕ → List ℕ) → (ℕ → List ℕ) → Bool
agrees f g = all_below (λ k. same_by exactly (f k) (g k)) asked

agreed : (f g : ℕ → List ℕ) → agrees f g ≡ true → (k : ℕ) → k < asked → f k ≡ g k
unfolding agrees
agreed f g e k l = same_lists (f k) (g k) (all_below_lem (λ k. same_by exactly (f k) (g k)) asked k e l)

pub missing_judged : (k : ℕ) → k < asked → judged_in (300 + k) ≡ mandatory_in k
unfolding agrees all_below same_by judged_in row_of
missing_judged = agreed (λ k. judged_in (300 + k)) mandatory_in refl

pub criticality_judged : (k : ℕ) → k < asked → judged_in (320 + k) ≡ listed_in k
unfolding agrees all_below same_by judged_in row_of
criticality_judged = agreed (λ k. judged_in (320 + k)) listed_in refl

pub value_judged : (k : ℕ) → k < asked → judged_in (340 + k) ≡ listed_in k
unfolding agrees all_below same_by judged_in row_of
value_judged = agreed (λ k. judged_in (340 + k)) listed_in refl
