-- A numeral read digit by digit.
-- How the code goes about it: named by contracts of functions that no other crate can call, and by nothing else of `specs/`.
use Rattle.std.specs.Prelude.{ℕ, ◌+◌, ◌*◌, Option}
use Rattle.octets.specs.Characters.{is_digit, digit_of}
use Rattle.texts.specs.Numerals.{up_to}

-- one digit written on
unfoldable pub appended : ℕ → ℕ → Option ℕ
appended n c = up_to (is_digit c) (10 * n + digit_of c)
