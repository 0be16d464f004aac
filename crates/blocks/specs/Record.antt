-- "Record: profile octet, certificate length in two octets, certificate, issuer; N from 3 to 16,387, parts from 0, 502 octets each, last
-- zero-filled" (document 01, "The deck").
use Rattle.std.specs.Prelude.{Bool, true, List, [], ◌∷◌, ◌++◌, ℕ, ◌+◌, ◌/◌, eqb, length, take, drop}
use Rattle.octets.specs.Octets.{octet_at}
use Rattle.octets.specs.Numbers.{pair_at, pair_of}
use Rattle.blocks.specs.Tests.{◌and◌, between}

-- the octets of a record
unfoldable pub record_of : ℕ → List ℕ → List ℕ → List ℕ
record_of profile certificate issuer = profile ∷ (pair_of (length certificate) ++ (certificate ++ issuer))

-- what the octets of a record say
abbrev pub profile_in : List ℕ → ℕ
profile_in p = octet_at p 0

abbrev pub certificate_length : List ℕ → ℕ
certificate_length p = pair_at p 1

unfoldable pub certificate_octets : List ℕ → List ℕ
certificate_octets p = take (certificate_length p) (drop 3 p)

unfoldable pub issuer_octets : List ℕ → List ℕ
issuer_octets p = drop (3 + certificate_length p) p

-- "N from 3 to 16,387"
abbrev pub is_record_length : ℕ → Bool
is_record_length n = between 3 16387 n

-- how many parts a record of n octets has
abbrev pub parts : ℕ → ℕ
parts n = (n + 501) / 502

-- the fill: "last zero-filled"
abbrev pub are_zero : List ℕ → Bool
are_zero [] = true
are_zero (x ∷ xs) = eqb x 0 and are_zero xs
