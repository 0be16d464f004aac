-- What a text of decimal digits says.
use Rattle.std.specs.Prelude.{Bool, ◌&&◌, List, [], ◌∷◌, ℕ, ◌+◌, ◌*◌, Option, None, leb}
use Rattle.std.specs.Bool.{then_some}
use Rattle.octets.specs.Characters.{are_digits, digit_of}

-- the number that digits say, written on behind n
unfoldable pub value_from : ℕ → List ℕ → ℕ
value_from n [] = n
value_from n (c ∷ cs) = value_from (10 * n + digit_of c) cs

-- "octets 0–3 record number"
abbrev pub largest_number : ℕ
largest_number = 4294967295

-- a number that a record can have
abbrev pub up_to : Bool → ℕ → Option ℕ
up_to digits n = then_some (digits && leb n largest_number) n

-- the digits cs written on behind n
unfoldable pub decimal_from : ℕ → List ℕ → Option ℕ
decimal_from n cs = up_to (are_digits cs) (value_from n cs)

-- at least one digit and nothing besides
unfoldable pub decimal_of : List ℕ → Option ℕ
decimal_of [] = None
decimal_of (c ∷ cs) = decimal_from 0 (c ∷ cs)
