-- The number of a stretch of octets, and what document 01 asks of numbers.
use Rattle.std.specs.Prelude.{List, Bool, false, ◌&&◌, ◌||◌, ℕ, ◌-◌, ◌%◌, ◌^◌, ltb, leb, eqb, ℤ, pos, negsuc}
use Rattle.octets.specs.Octets.{octets_from}
use Rattle.octets.specs.Numbers.{number_of}

-- the number that the octets from body to end say, the high one first
abbrev pub number : List ℕ → ℕ → ℕ → ℕ
number s body end = number_of (octets_from s body (end - body))

-- "above zero" (rule 102), "positive" (rule 204). The number −(n + 1) is negsuc n.
abbrev pub is_positive : ℤ → Bool
is_positive (pos n) = ltb 0 n
is_positive (negsuc n) = false

abbrev pub is_odd : ℕ → Bool
is_odd v = eqb (v % 2) 1

-- exactly k bits: from 2 ^ (k − 1) to below 2 ^ k
abbrev pub has_bits : ℕ → ℕ → Bool
has_bits k v = leb (2 ^ (k - 1)) v && ltb v (2 ^ k)

-- 205: "modulus 2048, 3072 or 4096 bits"
abbrev pub modulus_ok : ℕ → Bool
modulus_ok v = has_bits 2048 v || (has_bits 3072 v || has_bits 4096 v)

-- 206: "exponent odd, from 65,537 to below 2^256−1"
abbrev pub exponent_ok : ℕ → Bool
exponent_ok v = is_odd v && (leb 65537 v && ltb v (2 ^ 256 - 1))

-- 208: "modulus at least 2048 bits" (document 02, CR 1): from 2 ^ 2047 on
abbrev pub long_modulus : ℕ → Bool
long_modulus v = leb (2 ^ (2048 - 1)) v
