-- Digits without leading zeros, and numbers in decimal.
--     digits_written     a number in decimal is digits
--     value_above        the number that digits say, written on behind one above 0, is above 0
--     decimal_on         digits behind a number above 0 in decimal are a number in decimal
--     decimal_said       digits, the first not 0, are the number that they say, in decimal
-- Assumes nothing.
use mathlib.Core.Path.{◌≡◌, refl, sym, ap, ◌∙◌}
use mathlib.Core.List.{List, [], ◌∷◌, ◌++◌, append-nil}
use mathlib.Core.Bool.{true}
use Prim.Native.Nat.{ℕ, ◌+◌, ◌-◌, ◌*◌, ◌/◌, ◌%◌, ◌≤◌, ◌<◌}
use native.Mathlib.Omega.{arith}
use lib.Dec.{leb}
use lib.Seq.{append_snoc}
use borrow.Author.Tests.{le-leb, leb-true}
use Rattle.texts.specs.Texts.{decimal}
use Rattle.texts.specs.Numerals.{value_from}
use Rattle.texts.proofs.Laws.Decimal.{one_digit, more_digits, AllDigits, all_digits}
use Rattle.texts.proofs.Laws.Numerals.{digit_from}
use Rattle.octets.specs.Characters.{is_digit, are_digits}
use Rattle.octets.proofs.Laws.Tests.{and_l, and_r}

digits_pass : (ds : List ℕ) → AllDigits ds → are_digits ds ≡ true
unfolding are_digits
digits_pass [] h = refl
digits_pass (d ∷ ds) h = rw (le-leb 48 d h.0, le-leb d 57 h.1, digits_pass ds h.2)

pub digits_written : (n : ℕ) → are_digits (decimal n) ≡ true
digits_written n = digits_pass (decimal n) (all_digits n)

digit_to : (d : ℕ) → is_digit d ≡ true → d ≤ 57
digit_to d e = leb-true d 57 (and_r (leb 48 d) (leb d 57) e)

pub value_above : (n : ℕ) (ds : List ℕ) → 0 < n → 0 < value_from n ds
unfolding value_from
value_above n [] h = h
value_above n (d ∷ ds) h = value_above (10 * n + (d - 48)) ds (omega arith)

-- one digit more
digit_on : (n d : ℕ) → 0 < n → is_digit d ≡ true → decimal (10 * n + (d - 48)) ≡ decimal n ++ (d ∷ [])
digit_on n d h e =
    let l = digit_from d e in
    let k = digit_to d e in
    let p : (10 * n + (d - 48)) / 10 ≡ n = omega arith in
    let q : 48 + (10 * n + (d - 48)) % 10 ≡ d = omega arith in
    more_digits (10 * n + (d - 48)) (omega arith) ∙ (λ i. decimal (p i) ++ (q i ∷ []))

pub decimal_on : (n : ℕ) (ds : List ℕ) → 0 < n → are_digits ds ≡ true → decimal (value_from n ds) ≡ decimal n ++ ds
unfolding value_from are_digits
decimal_on n [] h e = sym (append-nil (decimal n))
decimal_on n (d ∷ ds) h e =
    decimal_on (10 * n + (d - 48)) ds (omega arith) (and_r (is_digit d) (are_digits ds) e)
    ∙ ap (λ (l : List ℕ). l ++ ds) (digit_on n d h (and_l (is_digit d) (are_digits ds) e))
    ∙ append_snoc (decimal n) d ds

pub decimal_said : (d : ℕ) (ds : List ℕ) → 48 < d → are_digits (d ∷ ds) ≡ true → decimal (value_from 0 (d ∷ ds)) ≡ d ∷ ds
unfolding value_from are_digits
decimal_said d ds h e =
    let k = digit_to d (and_l (is_digit d) (are_digits ds) e) in
    let p : 48 + (10 * 0 + (d - 48)) ≡ d = omega arith in
    decimal_on (10 * 0 + (d - 48)) ds (omega arith) (and_r (is_digit d) (are_digits ds) e)
    ∙ ap (λ (l : List ℕ). l ++ ds) (one_digit (10 * 0 + (d - 48)) (omega arith) ∙ ap (λ (c : ℕ). c ∷ []) p)
