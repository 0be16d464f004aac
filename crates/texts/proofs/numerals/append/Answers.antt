-- `texts::numerals::append` meets its contract. Assumes nothing.
use mathlib.Core.Path.{◌≡◌, sym, ◌∙◌}
use mathlib.Core.Bool.{true}
use Rattle.octets.specs.Characters.{is_digit}
use Rattle.texts.proofs.Laws.Numerals.{append_other, append_large, append_digit, digit_from}
use Rattle.texts.proofs.numerals.append.Goals as goal

pub returns-then-not-is_digit : goal.returns-then-not-is_digit
returns-then-not-is_digit c = append_other _ _ (sym c.is_digit.ensures ∙ c.if-not-is_digit.true)

pub overflow_sub-next : goal.overflow_sub-next
overflow_sub-next c =
    let digit : is_digit c.args.c ≡ true = sym c.is_digit.ensures ∙ c.if-not-is_digit.false in
    digit_from _ digit

pub returns-then-next-gt-LARGEST : goal.returns-then-next-gt-LARGEST
returns-then-next-gt-LARGEST c =
    let digit : is_digit c.args.c ≡ true = sym c.is_digit.ensures ∙ c.if-not-is_digit.false in
    append_large _ _ digit c.if-next-gt-LARGEST.true

pub returns : goal.returns
returns c =
    let digit : is_digit c.args.c ≡ true = sym c.is_digit.ensures ∙ c.if-not-is_digit.false in
    append_digit _ _ digit c.if-next-gt-LARGEST.false
