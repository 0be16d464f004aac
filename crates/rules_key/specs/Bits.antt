-- An RSA key: RSAPublicKey ::= SEQUENCE { modulus INTEGER, publicExponent INTEGER } (RFC 3279, 2.3.1), in the bits of a BIT STRING.
use Rattle.std.specs.Prelude.{List, [], ◌∷◌, Bool, false, ◌&&◌, ℕ, ◌+◌, min, eqb, is_ok}
use Rattle.octets.specs.Octets.{octet_at}
use Rattle.der.specs.Header.{head_of, children_of}
use Rattle.der.specs.Contents.{contents_of}
use Rattle.der.specs.Integers.{integer_of}
use Rattle.der.specs.Soundness.{stretch_soundness}
use Rattle.der.specs.Tags.{integer_tag, sequence_tag}
use Rattle.der.specs.declared.header.Head.{Head}
use Rattle.numbers.specs.Numbers.{is_positive}

-- the bits start after the octet that counts the unused ones (X.690, 8.6.2)
abbrev pub bits_from : Head → ℕ
bits_from h = min (h.body + 1) h.end

-- the element that they start with, and its first two members
abbrev pub sequence_in : List ℕ → Head → Head
sequence_in s h = head_of s (bits_from h) h.end

abbrev pub modulus_of : List ℕ → Head → Head
modulus_of s h = head_of s (sequence_in s h).body (sequence_in s h).end

abbrev pub exponent_of : List ℕ → Head → Head
exponent_of s h = head_of s (modulus_of s h).end (sequence_in s h).end

-- an INTEGER above zero
abbrev pub is_positive_integer : List ℕ → Head → Bool
is_positive_integer s h = eqb h.tag integer_tag && is_positive (integer_of (contents_of s h))

abbrev pub two_positive : List ℕ → List Head → Bool
two_positive s [] = false
two_positive s (m ∷ []) = false
two_positive s (m ∷ e ∷ []) = is_positive_integer s m && is_positive_integer s e
two_positive s (m ∷ e ∷ h ∷ hs) = false

-- 204 "RSA bits are, with 0 unused, exactly a sound SEQUENCE of two positive INTEGERs"
unfoldable pub rsa_bits : List ℕ → Head → Bool
rsa_bits s h =
    eqb (octet_at s h.body) 0
    && (is_ok (stretch_soundness s (bits_from h) h.end)
    && (eqb (sequence_in s h).tag sequence_tag && two_positive s (children_of s (sequence_in s h).body (sequence_in s h).end)))
