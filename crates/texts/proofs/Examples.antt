-- Numbers in decimal, by computation: of one digit and of two, and the largest of 32 bits and of 64. Assumes nothing.
use mathlib.Core.Path.{◌≡◌, refl}
use mathlib.Core.List.{[], ◌∷◌, map}
use Rattle.texts.specs.Texts.{word, digits_by, decimal}

pub numbers : map decimal (0 ∷ 9 ∷ 10 ∷ 4294967295 ∷ 18446744073709551615 ∷ []) ≡ map word ("0" ∷ "9" ∷ "10" ∷ "4294967295" ∷ "18446744073709551615" ∷ [])
unfolding word decimal digits_by
numbers = refl
