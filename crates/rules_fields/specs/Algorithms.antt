-- Rules 105 to 108 (document 01, "Rules on fields").
use Rattle.std.specs.Prelude.{Bool, not, List, [], ◌∷◌, ◌++◌, ℕ}
use Rattle.der.specs.Comparing.{contents_are, octets_are, same_element}
use Rattle.der.specs.Oids.{oid_element, null_element}
use Rattle.der.specs.declared.header.Head.{Head}
use Rattle.certificate.specs.declared.fields.Certificate.{Certificate}
use Rattle.profiles.specs.Judged.{every_profile}
use Rattle.report.specs.Rows.{Row, ◌for◌⦂◌, broken_at}

-- the OBJECT IDENTIFIER sha256WithRSAEncryption, and then NULL
abbrev pub sha256_rsa : List ℕ
sha256_rsa = oid_element (1 ∷ 2 ∷ 840 ∷ 113549 ∷ 1 ∷ 1 ∷ 11 ∷ []) ++ null_element

-- an AlgorithmIdentifier holds these and nothing else
abbrev pub is_sha256_rsa : List ℕ → Head → Bool
is_sha256_rsa s algorithm = contents_are s algorithm sha256_rsa

-- "105 inner, 106 outer algorithm is 1.2.840.113549.1.1.11 with NULL"
abbrev pub rule105 : List ℕ → Certificate → List Head
rule105 s c = broken_at (not (is_sha256_rsa s c.inner)) c.inner

abbrev pub rule106 : List ℕ → Certificate → List Head
rule106 s c = broken_at (not (is_sha256_rsa s c.outer)) c.outer

-- 107 "the two equal as octets (at outer)"
abbrev pub rule107 : List ℕ → Certificate → List Head
rule107 s c = broken_at (not (same_element s c.inner s c.outer)) c.outer

-- 108 "issuer name equals the issuer's subject, octet by octet"; name is that subject's octets
abbrev pub rule108 : List ℕ → Certificate → List ℕ → List Head
rule108 s c name = broken_at (not (octets_are s c.issuer name)) c.issuer

unfoldable pub signature_rows : List ℕ → Certificate → List ℕ → List Row
signature_rows s c name =
    105 for every_profile ⦂ rule105 s c
    ∷ 106 for every_profile ⦂ rule106 s c
    ∷ 107 for every_profile ⦂ rule107 s c
    ∷ 108 for every_profile ⦂ rule108 s c name
    ∷ []
