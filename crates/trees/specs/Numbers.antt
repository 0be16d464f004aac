-- Numbers in octets, the high octet first.
use Rattle.std.specs.Prelude.{List, [], ◌∷◌, true, false, ℕ, zero, suc, ◌%◌, ◌/◌, ltb}

-- a number in the fewest octets of which the first is below a limit, and then the octets `after`
unfoldable pub number_by : ℕ → ℕ → ℕ → List ℕ → List ℕ
number_by limit zero n after = after
number_by limit (suc fuel) n after = elim (ltb n limit) [ true ↦ n ∷ after | false ↦ number_by limit fuel (n / 256) (n % 256 ∷ after) ]

-- a number in the fewest octets
abbrev pub number_octets : ℕ → List ℕ
number_octets n = number_by 256 (suc n) n []

-- a number in the fewest octets of which the first has bit 8 free, for the sign
abbrev pub signed_octets : ℕ → List ℕ
signed_octets n = number_by 128 (suc n) n []
