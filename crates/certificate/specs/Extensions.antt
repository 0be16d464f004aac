-- The extensions of a certificate (RFC 5280, 4.1.2.9), and their slots in document 01's table, "Rules on extensions", with "slot 11, name constraints
-- 2.5.29.30" (document 02, CR 1).
use Rattle.std.specs.Prelude.{List, [], ◌∷◌, Bool, cond, ℕ, ◌+◌, eqb}
use Rattle.certificate.specs.declared.extensions.Extension.{Extension}
use Rattle.der.specs.Members.{first_in, second_in, past}
use Rattle.octets.specs.Same.{same_by, exactly}
use Rattle.der.specs.Header.{children_of}
use Rattle.der.specs.Contents.{contents_of}
use Rattle.der.specs.Comparing.{first_is, same_contents}
use Rattle.der.specs.Tags.{boolean_tag}
use Rattle.der.specs.declared.header.Head.{Head}
use Rattle.der.specs.Elements.{any_of}
use Rattle.der.specs.Oids.{oid}

-- ---- Extension: extnID, critical BOOLEAN DEFAULT FALSE, extnValue

-- the contents of its OBJECT IDENTIFIER
abbrev pub identifier_of : List ℕ → Head → List ℕ
identifier_of s h = contents_of s (first_in s h)

-- the member after the identifier is a BOOLEAN, which "if written, is TRUE", or the value
unfoldable pub extension_of : List ℕ → Head → Extension
extension_of s h =
    record {
      place = h;
      critical = eqb (second_in s h).tag boolean_tag;
      value = past boolean_tag s (second_in s h) h.end;
    }

-- ---- the table

-- one below id-ce
abbrev pub certificate_extension : ℕ → List ℕ
certificate_extension n = oid (2 ∷ 5 ∷ 29 ∷ n ∷ [])

abbrev pub access_identifier : List ℕ
access_identifier = oid (1 ∷ 3 ∷ 6 ∷ 1 ∷ 5 ∷ 5 ∷ 7 ∷ 1 ∷ 1 ∷ [])

abbrev pub nocheck : List ℕ
nocheck = oid (1 ∷ 3 ∷ 6 ∷ 1 ∷ 5 ∷ 5 ∷ 7 ∷ 48 ∷ 1 ∷ 5 ∷ [])

-- the identifiers of slots 1 to 11
abbrev pub identifiers : List (List ℕ)
identifiers =
    certificate_extension 35  -- authority key id
    ∷ certificate_extension 19  -- basic constraints
    ∷ certificate_extension 14  -- subject key id
    ∷ certificate_extension 15  -- key usage
    ∷ certificate_extension 37  -- extended key usage
    ∷ certificate_extension 32  -- policies
    ∷ certificate_extension 17  -- alternative name
    ∷ access_identifier  -- authority information access
    ∷ certificate_extension 31  -- CRL points
    ∷ nocheck
    ∷ certificate_extension 30  -- name constraints
    ∷ []

-- the position of an identifier in a list, the first of which has position k; 0 if it is not there
abbrev pub position_from : ℕ → List (List ℕ) → List ℕ → ℕ
position_from k [] identifier = 0
position_from k (i ∷ is) identifier = cond (same_by exactly identifier i) k (position_from (k + 1) is identifier)

unfoldable pub slot_for : List ℕ → ℕ
slot_for identifier = position_from 1 identifiers identifier

-- 1 to 11 as in the table, 0 for an identifier that is not in it
abbrev pub slot_of : List ℕ → Head → ℕ
slot_of s h = slot_for (identifier_of s h)

-- "private key usage period 2.5.29.16"
abbrev pub is_period : List ℕ → Head → Bool
is_period s h = first_is s h (certificate_extension 16)

-- ---- 361 "each later extension with an identifier seen before"

abbrev pub same_identifier : List ℕ → Head → Head → Bool
same_identifier s a b = same_contents s (first_in s a) s (first_in s b)

-- some extension of a list that starts at from, before the extension h, has its identifier
unfoldable pub seen_before : List ℕ → ℕ → Head → Bool
seen_before s from h = any_of (λ e. same_identifier s e h) (children_of s from h.at)
