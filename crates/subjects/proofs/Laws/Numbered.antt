-- What the names of authorities are, said by numbers.
--     numeral_exactly       a decimal number from 1 without leading zeros is exactly the decimal of a number from 1 on
--     numbered_exactly      words that such a number follows are exactly those with the decimal of a number from 1 on behind them
--     authority_exactly     an authority's name is exactly "US Federal TLS CA " or "US Federal Test TLS CA " with such a decimal behind it
-- Assumes nothing.
use mathlib.Core.Path.{◌≡◌, refl, sym, ap, ap₂, ◌∙◌}
use mathlib.Core.Logic.{◌↔◌, ◌⊎◌, inl, inr, ⊎_elim}
use mathlib.Core.List.{List, [], ◌∷◌, ◌++◌}
use mathlib.Core.Bool.{Bool, true, false, not, ◌||◌}
use Prim.Native.Nat.{ℕ, ◌-◌, ◌*◌, ◌+◌, ◌≤◌, ◌<◌}
use native.Mathlib.Omega.{arith}
use lib.ListN.{length, get_or, take, drop, take-append-drop}
use lib.Seq.{take-append_seam, drop-append_seam}
use lib.Dec.{eqb}
use borrow.Author.Tests.{eqb-false, ne_eqb, not-true}
use Rattle.subjects.specs.Authorities.{is_number_from_one, is_numbered, authority, test_authority, names_authority}
use Rattle.octets.specs.Characters.{is_digit, are_digits}
use Rattle.octets.specs.Same.{same_by, exactly}
use Rattle.octets.proofs.Laws.Same.{same_lists, lists_same}
use Rattle.octets.proofs.Laws.Tests.{and_l, and_r}
use Rattle.texts.specs.Texts.{decimal}
use Rattle.texts.specs.Numerals.{value_from}
use Rattle.texts.proofs.Laws.Decimal.{no_zero_first}
use Rattle.texts.proofs.Laws.Numerals.{digit_from}
use Rattle.texts.proofs.Laws.Leading.{digits_written, value_above, decimal_said}

-- ---- the number

-- octets are the decimal of a number from 1 on
abbrev pub FromOne : List ℕ → Type 0
FromOne ds = (n : ℕ) × (1 ≤ n) × (ds ≡ decimal n)

first_above : (ds : List ℕ) → are_digits ds ≡ true → 48 < get_or ds 0 0 → is_number_from_one ds ≡ true
unfolding is_number_from_one
first_above [] e h = absurd (omega arith)
first_above (d ∷ ds) e h = let f = ne_eqb d 48 (λ g. omega arith) in rw (f, e)

said : (ds : List ℕ) → is_number_from_one ds ≡ true → FromOne ds
unfolding is_number_from_one are_digits value_from
said [] e = absurd (let k : ◌≡◌ {A = ℕ} 0 1 = cc in omega arith)
said (d ∷ ds) e =
    let digits = and_r (not (eqb d 48)) (are_digits (d ∷ ds)) e in
    let other = eqb-false d 48 (not-true (eqb d 48) (and_l (not (eqb d 48)) (are_digits (d ∷ ds)) e)) in
    let above : 48 < d = omega (arith, digit_from d (and_l (is_digit d) (are_digits ds) digits), other) in
    (value_from 0 (d ∷ ds), value_above (10 * 0 + (d - 48)) ds (omega arith), sym (decimal_said d ds above digits))

pub numeral_exactly : (ds : List ℕ) → (is_number_from_one ds ≡ true) ↔ FromOne ds
numeral_exactly ds = (said ds, λ p. ap is_number_from_one p.2 ∙ first_above (decimal p.0) (digits_written p.0) (no_zero_first p.0 p.1))

-- ---- words before it

-- a text is these words with the decimal of a number from 1 on behind them
abbrev pub NumberedFromOne : List ℕ → List ℕ → Type 0
NumberedFromOne words text = (n : ℕ) × (1 ≤ n) × (text ≡ words ++ decimal n)

words_said : (words text : List ℕ) → is_numbered words text ≡ true → NumberedFromOne words text
unfolding is_numbered
words_said words text e =
    let same = and_l (same_by exactly (take (length words) text) words) (is_number_from_one (drop (length words) text)) e in
    let number = said (drop (length words) text) (and_r (same_by exactly (take (length words) text) words) (is_number_from_one (drop (length words) text)) e) in
    (number.0, number.1, sym (take-append-drop (length words) text) ∙ ap₂ (λ (a b : List ℕ). a ++ b) (same_lists _ _ same) number.2)

words_pass : (words : List ℕ) (n : ℕ) → 1 ≤ n → is_numbered words (words ++ decimal n) ≡ true
unfolding is_numbered
words_pass words n h =
    rw (take-append_seam words (decimal n), drop-append_seam words (decimal n), lists_same exactly words)
    ((numeral_exactly (decimal n)).1 (n, h, refl))

pub numbered_exactly : (words text : List ℕ) → (is_numbered words text ≡ true) ↔ NumberedFromOne words text
numbered_exactly words text = (words_said words text, λ p. ap (is_numbered words) p.2 ∙ words_pass words p.0 p.1)

-- ---- the two names

or_cases : (a b : Bool) → (a || b) ≡ true → (a ≡ true) ⊎ (b ≡ true)
or_cases true b e = inl refl
or_cases false b e = inr e

or_left : (a b : Bool) → a ≡ true → (a || b) ≡ true
or_left true b e = refl
or_left false b e = cc

or_right : (a b : Bool) → b ≡ true → (a || b) ≡ true
or_right true b e = refl
or_right false b e = e

pub authority_exactly : (text : List ℕ)
    → (names_authority text ≡ true) ↔ (NumberedFromOne authority text ⊎ NumberedFromOne test_authority text)
authority_exactly text =
    let own = numbered_exactly authority text in
    let test = numbered_exactly test_authority text in (
      (λ e. ⊎_elim (λ p. inl (own.0 p)) (λ p. inr (test.0 p)) (or_cases (is_numbered authority text) (is_numbered test_authority text) e)),
      ⊎_elim (λ p. or_left _ _ (own.1 p)) (λ p. or_right (is_numbered authority text) _ (test.1 p)),
    )
