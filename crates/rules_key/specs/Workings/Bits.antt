-- An RSA key, read once for rules 204 to 208.
-- How the code goes about it: named by contracts of functions that no other crate can call, and by nothing else of `specs/`.
use Rattle.std.specs.Prelude.{List, [], ◌∷◌, ℕ, not, Option}
use Rattle.std.specs.Bool.{then_some}
use Rattle.rules_key.specs.declared.bits.RsaKey.{RsaKey}
use Rattle.rules_key.specs.Bits.{modulus_of, exponent_of, rsa_bits}
use Rattle.octets.specs.Numbers.{number_of}
use Rattle.der.specs.Contents.{contents_of}
use Rattle.der.specs.declared.header.Head.{Head}
use Rattle.numbers.specs.Numbers.{modulus_ok, long_modulus, exponent_ok}
use Rattle.primes.specs.Primes.{primes_below, free_of}
use Rattle.report.specs.Rows.{Row, ◌⦂◌, broken_at}

-- where the bits keep rule 204
unfoldable pub rsa_key_of : List ℕ → Head → Option RsaKey
rsa_key_of s h = then_some (rsa_bits s h) (record { modulus = modulus_of s h; exponent = exponent_of s h })

-- the number that an INTEGER of the key stands for
abbrev pub number_in_key : List ℕ → Head → ℕ
number_in_key s h = number_of (contents_of s h)

-- rules 205 to 208 of a key that keeps 204
abbrev pub number_rows : List ℕ → RsaKey → List Row
number_rows s key =
    205 ⦂ broken_at (not (modulus_ok (number_in_key s key.modulus))) key.modulus
    ∷ 206 ⦂ broken_at (not (exponent_ok (number_in_key s key.exponent))) key.exponent
    ∷ 207 ⦂ broken_at (not (free_of (primes_below 752) (number_in_key s key.modulus))) key.modulus
    ∷ 208 ⦂ broken_at (not (long_modulus (number_in_key s key.modulus))) key.modulus
    ∷ []
