-- A walk along the octets of a stretch, and tests of them.
--     octets_front                 what it has not come to yet, opened at its front, where the first is x
--     stretch_walked               it yields those that it has not come to yet
--     beside_stretch               a test of the places of two stretches
--     stretch_far                  a stretch from a place that no usize counts to is one from the largest that it counts to
--     digits_all, one_of_any       definitions that such tests are
-- Assumes nothing.
use mathlib.Core.Path.{◌≡◌, refl, sym, ap, ap₂, ◌∙◌}
use mathlib.Core.Bool.{Bool, true, false, ◌&&◌, ◌||◌}
use mathlib.Core.List.{List, [], ◌∷◌}
use Prim.Native.Nat.{ℕ, zero, suc, ◌+◌, ◌-◌, ◌≤◌, ◌<◌, min}
use native.Mathlib.Nat.{add-zero, min-eq_left}
use native.Mathlib.Omega.{arith}
use lib.Dec.{leb, eqb}
use lib.ListN.{length}
use borrow.Author.Tests.{leb-true, leb-false}
use Rattle.std.specs.List.{list_all, list_any, zip, range_with_len}
use Rattle.std.specs.Iterator.{YieldsFirst}
use Rattle.std.proofs.lemmas.Iterator.{YieldsList}
use Rattle.std.proofs.lemmas.Iterator.Consumers.{YieldsList-from_first}
use Rattle.octets.specs.Octets.{octet_at, octets_from, is_one_of}
use Rattle.octets.specs.Characters.{is_digit, are_digits}
use Rattle.octets.specs.Numbers.{largest}
use Rattle.octets.specs.Stretches.{octets_left}
use Rattle.octets.specs.declared.stretches.Stretch.{Stretch}
use Rattle.octets.proofs.Laws.Octets.{past, octets_next}

pub octets_front : (s : List ℕ) (a n k x : ℕ) → k < n → x ≡ octet_at s (a + k)
    → octets_from s (a + k) (n - k) ≡ x ∷ octets_from s (a + (k + 1)) (n - (k + 1))
octets_front s a n k x h e = octets_next s a n k h ∙ ap (λ y. y ∷ octets_from s (a + (k + 1)) (n - (k + 1))) (sym e)

pub stretch_walked : (walk : Stretch) {bs : List ℕ} → octets_left walk ≡ bs → YieldsList (YieldsFirst octets_left) (λ b. b) walk bs
stretch_walked walk {bs} e = YieldsList-from_first (λ b. b) octets_left bs e

beside_by : (passes : ℕ → ℕ → Bool) (s t : List ℕ) (a b i n : ℕ)
    → list_all (λ k. passes (octet_at s (a + k)) (octet_at t (b + k))) (range_with_len i n)
    ≡ list_all (λ pair. passes pair.0 pair.1) (zip (octets_from s (a + i) n) (octets_from t (b + i) n))
unfolding octets_from
beside_by passes s t a b i zero = refl
beside_by passes s t a b i (suc n) =
    let e : a + (i + 1) ≡ a + i + 1 = omega arith in
    let f : b + (i + 1) ≡ b + i + 1 = omega arith in
    ap (λ r. passes (octet_at s (a + i)) (octet_at t (b + i)) && r)
    (beside_by passes s t a b (i + 1) n
    ∙ ap₂ (λ k m. list_all (λ pair. passes pair.0 pair.1) (zip (octets_from s k n) (octets_from t m n))) e f)

pub beside_stretch : (passes : ℕ → ℕ → Bool) (s t : List ℕ) (a b n : ℕ)
    → list_all (λ k. passes (octet_at s (a + k)) (octet_at t (b + k))) (range_with_len 0 n)
    ≡ list_all (λ pair. passes pair.0 pair.1) (zip (octets_from s a n) (octets_from t b n))
beside_stretch passes s t a b n =
    beside_by passes s t a b 0 n
    ∙ ap₂ (λ k m. list_all (λ pair. passes pair.0 pair.1) (zip (octets_from s k n) (octets_from t m n))) (add-zero a) (add-zero b)

far_same : (s : List ℕ) (a b n : ℕ) → length s ≤ a → length s ≤ b → octets_from s a n ≡ octets_from s b n
unfolding octets_from
far_same s a b zero h k = refl
far_same s a b (suc n) h k =
    ap₂ (λ x xs. x ∷ xs) (sym (past s a h) ∙ past s b k) (far_same s (a + 1) (b + 1) n (omega arith) (omega arith))

pub stretch_far : (s : List ℕ) (at from n : ℕ) → length s ≤ largest → from ≡ min at largest → octets_from s from n ≡ octets_from s at n
stretch_far s at from n h q = go (leb at largest) refl
  where
    go : (t : Bool) → leb at largest ≡ t → octets_from s from n ≡ octets_from s at n
    go true e = ap (λ a. octets_from s a n) (q ∙ min-eq_left (leb-true at largest e))
    go false e = let f = leb-false at largest e in far_same s from at n (omega arith) (omega arith)

pub digits_all : (bs : List ℕ) → list_all is_digit bs ≡ are_digits bs
unfolding are_digits
digits_all [] = refl
digits_all (b ∷ bs) = ap (λ r. is_digit b && r) (digits_all bs)

pub one_of_any : (x : ℕ) (bs : List ℕ) → list_any (λ b. eqb b x) bs ≡ is_one_of x bs
unfolding is_one_of
one_of_any x [] = refl
one_of_any x (b ∷ bs) = ap (λ r. eqb b x || r) (one_of_any x bs)
