-- A room that is filled from its first octet on.
--     filled_more     one octet more
--     filled          all of them
-- Assumes nothing.
use mathlib.Core.Path.{◌≡◌, sym, ap, subst, ◌∙◌}
use mathlib.Core.List.{List, [], ◌∷◌, ◌++◌}
use Prim.Native.Nat.{ℕ, zero, suc, ◌+◌, ◌%◌, ◌<◌}
use native.Mathlib.Omega.{arith}
use lib.ListN.{length, set, take}
use lib.Seq.{take_all, take-suc-set}
use Rattle.answers.specs.Rooms.{pattern_from, fresh_room}

-- one octet more at the end
pattern_more : (i n : ℕ) → pattern_from i (suc n) ≡ pattern_from i n ++ (((n + i) % 251) ∷ [])
pattern_more i zero =
    let e : i ≡ 0 + i = omega arith in
    ap (λ (k : ℕ). (k % 251) ∷ []) e
pattern_more i (suc n) =
    let e : n + suc i ≡ suc n + i = omega arith in
    ap (λ (l : List ℕ). (i % 251) ∷ l) (pattern_more (suc i) n ∙ ap (λ (k : ℕ). pattern_from (suc i) n ++ ((k % 251) ∷ [])) e)

module _ (room : List ℕ) (i : ℕ) where
  pub filled_more : take i room ≡ fresh_room i → i < length room → take (i + 1) (set room i (i % 251)) ≡ fresh_room (i + 1)
  filled_more h l =
      let e : suc i ≡ i + 1 = omega arith in
      let none : i ≡ i + 0 = omega arith in
      subst (λ (k : ℕ). take k (set room i (i % 251)) ≡ fresh_room k) e
      (take-suc-set room i (i % 251) l
      ∙ ap (λ (octets : List ℕ). octets ++ ((i % 251) ∷ [])) h
      ∙ ap (λ (k : ℕ). fresh_room i ++ ((k % 251) ∷ [])) none
      ∙ sym (pattern_more 0 i))

  pub filled : take i room ≡ fresh_room i → i ≡ length room → room ≡ fresh_room (length room)
  filled h e = sym (take_all i room (omega arith)) ∙ h ∙ ap fresh_room e
