-- A table of rows stands for a list of types, or of runs of fields, where each row says what its entry is, given the next.
-- Assumes nothing.
use mathlib.Core.Path.{◌≡◌, refl}
use mathlib.Core.List.{List, [], ◌∷◌}
use Prim.Native.Nat.{ℕ, zero, suc, ◌+◌}
use native.Mathlib.Numerals.{add-one}
use lib.ListN.{get_or}
use Rattle.asn.specs.Workings.Table.{rows_say}

module _ {ℓ} {A : Type ℓ} (say : ℕ → A → A) (nil : A) (ends : (a : A) → nil ≡ say 0 a) where
  at_row : (rs : List ℕ) (n : ℕ) → get_or (rows_say say nil rs) n nil ≡ say (get_or rs n 0) (get_or (rows_say say nil rs) (suc n) nil)
  at_row [] n = ends nil
  at_row (r ∷ rs) zero = refl
  at_row (r ∷ rs) (suc n) = at_row rs n

  -- the entry at n is what the row at n says, given the entry at n + 1
  pub row_law : (rs : List ℕ) (xs : List A) → rows_say say nil rs ≡ xs → (n : ℕ) → get_or xs n nil ≡ say (get_or rs n 0) (get_or xs (n + 1) nil)
  row_law rs xs e n = rw (← e, add-one) (at_row rs n)
