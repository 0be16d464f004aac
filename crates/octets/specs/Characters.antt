-- ASCII's characters: digits and letters, each by the code of the first and the last, between which the others stand in order.
use Rattle.std.specs.Prelude.{List, [], ◌∷◌, Bool, true, ◌&&◌, ◌||◌, ℕ, ◌+◌, ◌-◌, leb}
use Prim.Native.Char.{code}

abbrev pub is_digit : ℕ → Bool
is_digit b = leb (code "0") b && leb b (code "9")

unfoldable pub are_digits : List ℕ → Bool
are_digits [] = true
are_digits (b ∷ bs) = is_digit b && are_digits bs

-- the number that a digit says
abbrev pub digit_of : ℕ → ℕ
digit_of b = b - code "0"

-- the digit that says a number below 10
abbrev pub digit_for : ℕ → ℕ
digit_for n = code "0" + n

abbrev pub is_upper : ℕ → Bool
is_upper b = leb (code "A") b && leb b (code "Z")

abbrev pub is_lower : ℕ → Bool
is_lower b = leb (code "a") b && leb b (code "z")

abbrev pub is_letter : ℕ → Bool
is_letter b = is_upper b || is_lower b
