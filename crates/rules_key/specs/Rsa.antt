-- Rules 204 to 207 (document 01, "Rules on fields"), and 208 (document 02, CR 1): 204 "at the BIT STRING", "205 to 207 at the INTEGER".
use Rattle.std.specs.Prelude.{Bool, not, ◌&&◌, List, [], ◌∷◌, ℕ}
use Rattle.rules_key.specs.Bits.{modulus_of, exponent_of, rsa_bits}
use Rattle.octets.specs.Numbers.{number_of}
use Rattle.der.specs.Contents.{contents_of}
use Rattle.der.specs.declared.header.Head.{Head}
use Rattle.numbers.specs.Numbers.{modulus_ok, long_modulus, exponent_ok}
use Rattle.primes.specs.Primes.{primes_below, free_of}
use Rattle.certificate.specs.declared.key.Key.{Key}
use Rattle.facts.specs.Kinds.{is_rsa}
use Rattle.profiles.specs.Judged.{O, server_and_responder, subordinate, every_profile}
use Rattle.report.specs.Rows.{Row, ◌for◌⦂◌, broken_at}

-- 204 "RSA bits are, with 0 unused, exactly a sound SEQUENCE of two positive INTEGERs"
abbrev pub rule204 : List ℕ → Key → List Head
rule204 s k = broken_at (is_rsa k.kind && not (rsa_bits s k.bits)) k.bits

-- "else 205 to 207 are not judged"; 208 "else as 205" (CR 1)
abbrev pub judges_numbers : List ℕ → Key → Bool
judges_numbers s k = is_rsa k.kind && rsa_bits s k.bits

-- the numbers that the two INTEGERs, which are positive then, stand for
abbrev pub modulus : List ℕ → Key → ℕ
modulus s k = number_of (contents_of s (modulus_of s k.bits))

abbrev pub exponent : List ℕ → Key → ℕ
exponent s k = number_of (contents_of s (exponent_of s k.bits))

-- a rule on the modulus, or on the exponent, where they are judged
abbrev pub modulus_by : (ℕ → Bool) → List ℕ → Key → List Head
modulus_by kept s k = broken_at (judges_numbers s k && not (kept (modulus s k))) (modulus_of s k.bits)

abbrev pub exponent_by : (ℕ → Bool) → List ℕ → Key → List Head
exponent_by kept s k = broken_at (judges_numbers s k && not (kept (exponent s k))) (exponent_of s k.bits)

-- 205 "modulus 2048, 3072 or 4096 bits"
abbrev pub rule205 : List ℕ → Key → List Head
rule205 s k = modulus_by modulus_ok s k

-- 206 "exponent odd, from 65,537 to below 2^256−1"
abbrev pub rule206 : List ℕ → Key → List Head
rule206 s k = exponent_by exponent_ok s k

-- 207 "modulus divisible by none of the 133 primes below 752"
abbrev pub rule207 : List ℕ → Key → List Head
rule207 s k = modulus_by (free_of (primes_below 752)) s k

-- 208 "modulus at least 2048 bits, else as 205"
abbrev pub rule208 : List ℕ → Key → List Head
rule208 s k = modulus_by long_modulus s k

unfoldable pub rsa_rows : List ℕ → Key → List Row
rsa_rows s k =
    204 for every_profile ⦂ rule204 s k
    ∷ 205 for server_and_responder ⦂ rule205 s k
    ∷ 206 for server_and_responder ⦂ rule206 s k
    ∷ 207 for O ⦂ rule207 s k
    ∷ 208 for subordinate ⦂ rule208 s k
    ∷ []
