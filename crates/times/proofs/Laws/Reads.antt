-- The contents of a time, octet by octet.
--     content_past                             an octet past the end of the contents is 0
--     digits_read                              the first octets tested for digits
--     digit_at, two_law                        one of the first digits; the number of two, by their low four bits
--     written_law                              where it is not well written, its date does not count
-- Assumes nothing.
use mathlib.Core.Path.{◌≡◌, refl, sym, ap, ◌∙◌}
use mathlib.Core.List.{List, [], ◌∷◌}
use mathlib.Core.Bool.{Bool, true, false, ◌&&◌}
use Prim.Native.Nat.{ℕ, zero, suc, ◌+◌, ◌-◌, ◌*◌, ◌%◌, ◌≤◌, ◌<◌}
use Prim.Native.Char.{code}
use native.Mathlib.Nat.{zero-add}
use native.Mathlib.Omega.{arith}
use lib.Dec.{leb, eqb}
use lib.ListN.{length}
use borrow.Author.Tests.{leb-true, leb-false}
use Rattle.std.specs.List.{list_all}
use Rattle.times.specs.declared.validity.Time.{Time}
use Rattle.times.specs.Reads.{digits_first, digits_and_z, two_at, if_real}
use Rattle.octets.specs.Octets.{octet_at, octets_from}
use Rattle.octets.specs.Characters.{is_digit, are_digits, digit_of}
use Rattle.octets.proofs.Laws.Octets.{past, octets_long, octets_at, octets_inside}
use Rattle.octets.proofs.Laws.Parts.{part_first}
use Rattle.octets.proofs.Laws.Stretches.{digits_all}
use Rattle.octets.proofs.Laws.Tests.{and_l, and_r}

pub content_past : (s : List ℕ) (body n k : ℕ) → n ≤ k → 0 ≡ octet_at (octets_from s body n) k
content_past s body n k h =
    let l : length (octets_from s body n) ≤ k = rw (octets_long s body n) h in
    past (octets_from s body n) k l

digit_in : (bs : List ℕ) (k : ℕ) → are_digits bs ≡ true → k < length bs → is_digit (octet_at bs k) ≡ true
unfolding are_digits
digit_in [] k d h = absurd (omega arith)
digit_in (b ∷ bs) zero d h = and_l (is_digit b) (are_digits bs) d
digit_in (b ∷ bs) (suc k) d h = digit_in bs k (and_r (is_digit b) (are_digits bs) d) (omega arith)

pub digit_at : (c : List ℕ) (digits k : ℕ) → digits_first digits c ≡ true → k < digits → is_digit (octet_at c k) ≡ true
digit_at c digits k d h =
    let l : k < length (octets_from c 0 digits) = rw (octets_long c 0 digits) h in
    let e : octet_at (octets_from c 0 digits) k ≡ octet_at c k = simp zero-add at (octets_at c 0 digits k h) in
    rw e at (digit_in (octets_from c 0 digits) k d l)

digits_whole : (s : List ℕ) (body n digits : ℕ) → digits ≤ n → octets_from (octets_from s body n) 0 digits ≡ octets_from s body digits
digits_whole s body n digits h =
    octets_inside (octets_from s body n) 0 digits (omega (arith, octets_long s body n)) ∙ part_first s body digits n h

pub digits_read : (s : List ℕ) (body n digits : ℕ) (good : Bool) → good ≡ list_all is_digit (octets_from s body digits)
    → (leb digits n && good) ≡ digits_first digits (octets_from s body n)
digits_read s body n digits good e = go (leb digits n) refl (digits_first digits (octets_from s body n)) refl
  where
    go : (t : Bool) → leb digits n ≡ t → (d : Bool) → digits_first digits (octets_from s body n) ≡ d → (t && good) ≡ d
    go true l d f = e ∙ (digits_all (octets_from s body digits) ∙ (sym (ap are_digits (digits_whole s body n digits (leb-true digits n l))) ∙ f))
    go false l false f = refl
    go false l true f =
        let none : is_digit 0 ≡ true = rw (← content_past s body n n (omega arith)) at (digit_at (octets_from s body n) digits n f (leb-false digits n l)) in
        cc none

digit_low : (b : ℕ) → is_digit b ≡ true → b % 16 ≡ digit_of b
digit_low b d =
    let low : 48 ≤ b = leb-true 48 b (and_l (leb 48 b) (leb b 57) d) in
    let high : b ≤ 57 = leb-true b 57 (and_r (leb 48 b) (leb b 57) d) in
    let e : b % 16 ≡ b - 48 = omega arith in
    e

pub two_law : (c : List ℕ) (k x y : ℕ) → x ≡ octet_at c k → y ≡ octet_at c (k + 1) → is_digit (octet_at c k) ≡ true → is_digit (octet_at c (k + 1)) ≡ true
    → 10 * (x % 16) + y % 16 ≡ two_at k c
two_law c k x y e f d g = rw (e, f, digit_low (octet_at c k) d, digit_low (octet_at c (k + 1)) g)

real_if : (written : Bool) (t u : Time) → (written ≡ true → t ≡ u) → if_real written t ≡ if_real written u
unfolding if_real
real_if true t u same = ap (λ (v : Time). if_real true v) (same refl)
real_if false t u same = refl

pub written_law : (digits : ℕ) (c : List ℕ) (t u : Time) → (digits_first digits c ≡ true → t ≡ u)
    → if_real (digits_and_z digits c) t ≡ if_real (digits_and_z digits c) u
unfolding digits_and_z
written_law digits c t u same =
    let z = eqb (octet_at c digits) (code "Z") in
    real_if (digits_and_z digits c) t u (λ e. same (and_l (digits_first digits c) z (and_r (eqb (length c) (digits + 1)) (digits_first digits c && z) e)))
