-- The key of a certificate (RFC 5280, 4.1.2.7): its algorithm, and what sort of key that makes it.
use Rattle.std.specs.Prelude.{List, [], ◌∷◌, cond, ℕ}
use Rattle.certificate.specs.declared.key.KeyKind.{KeyKind}
use Rattle.certificate.specs.declared.key.KeyKind.TheVariants.{Rsa, EllipticCurve, Other}
use Rattle.certificate.specs.declared.key.Key.{Key}
use Rattle.der.specs.Comparing.{contents_are}
use Rattle.der.specs.declared.header.Head.{Head}
use Rattle.der.specs.Members.{first_in, after}
use Rattle.der.specs.Oids.{oid}

abbrev pub rsa_encryption : List ℕ
rsa_encryption = oid (1 ∷ 2 ∷ 840 ∷ 113549 ∷ 1 ∷ 1 ∷ 1 ∷ [])

abbrev pub ec_public_key : List ℕ
ec_public_key = oid (1 ∷ 2 ∷ 840 ∷ 10045 ∷ 2 ∷ 1 ∷ [])

-- "RSA key" and "EC key" go by the algorithm's OBJECT IDENTIFIER alone
unfoldable pub kind_of : List ℕ → Head → KeyKind
kind_of s identifier =
    cond (contents_are s identifier rsa_encryption) Rsa
    (cond (contents_are s identifier ec_public_key) EllipticCurve Other)

-- A SubjectPublicKeyInfo holds an AlgorithmIdentifier and a BIT STRING; the AlgorithmIdentifier an OBJECT IDENTIFIER and, if there are any,
-- parameters.
unfoldable pub key_of : List ℕ → Head → Key
key_of s key =
    record {
      algorithm = first_in s key;
      parameters = after s (first_in s (first_in s key)) (first_in s key).end;
      bits = after s (first_in s key) key.end;
      kind = kind_of s (first_in s (first_in s key));
    }
