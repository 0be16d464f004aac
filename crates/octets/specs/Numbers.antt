-- The numbers that octets say, the high octet first.
use Rattle.std.specs.Prelude.{List, [], ◌∷◌, ◌++◌, ℕ, ◌+◌, ◌*◌, ◌/◌, ◌%◌}
use Rattle.octets.specs.Octets.{octet_at}

-- the number n, written on by the octets
unfoldable pub number_from : ℕ → List ℕ → ℕ
number_from n [] = n
number_from n (b ∷ bs) = number_from (256 * n + b) bs

abbrev pub number_of : List ℕ → ℕ
number_of bs = number_from 0 bs

-- two octets from place i on
abbrev pub pair_at : List ℕ → ℕ → ℕ
pair_at s i = 256 * octet_at s i + octet_at s (i + 1)

-- a number as two octets, or as four
abbrev pub pair_of : ℕ → List ℕ
pair_of n = (n / 256 % 256) ∷ (n % 256) ∷ []

abbrev pub quad_of : ℕ → List ℕ
quad_of n = pair_of (n / 65536) ++ pair_of n

-- four octets from place i on
abbrev pub quad_at : List ℕ → ℕ → ℕ
quad_at s i = 65536 * pair_at s i + pair_at s (i + 2)

-- the largest number that a usize holds, 2 ^ 64 less 1
abbrev pub largest : ℕ
largest = 18446744073709551615
