-- Rules 421 to 424 of a subordinate CA (document 02, CR 1). Slot 2 is basic constraints, 4 key usage, 8 authority information access, 9 CRL distribution
-- points. "Place: the OCTET STRING, or the item for "each"" (document 01, "Rules on extensions").
use Rattle.std.specs.Prelude.{Bool, not, List, [], ◌∷◌, ◌++◌, ℕ}
use Rattle.der.specs.Comparing.{contents_are}
use Rattle.der.specs.Members.{members_in}
use Rattle.der.specs.Tags.{boolean_tag, integer_tag}
use Rattle.der.specs.declared.header.Head.{Head}
use Rattle.certificate.specs.Standing.{Standing}
use Rattle.usages.specs.Usage.{usage_of, signs_for_authority}
use Rattle.locations.specs.Uris.{is_other_uri}
use Rattle.locations.specs.Access.{not_http_by}
use Rattle.locations.specs.declared.access.Method.TheVariants.{Ocsp}
use Rattle.forms.specs.Values.{where_good}
use Rattle.profiles.specs.Judged.{subordinate}
use Rattle.report.specs.Forms.{filter}
use Rattle.report.specs.Rows.{Row, ◌for◌⦂◌, broken_at}
use Rattle.rules_values.specs.Points.{full_names_in}

-- BasicConstraints ::= SEQUENCE { cA BOOLEAN DEFAULT FALSE, pathLenConstraint INTEGER (0..MAX) OPTIONAL } (RFC 5280, 4.2.1.9)

-- cA TRUE, and pathLenConstraint 0, as DER writes them
abbrev pub true_element : List ℕ
true_element = boolean_tag ∷ 1 ∷ 255 ∷ []

abbrev pub zero_element : List ℕ
zero_element = integer_tag ∷ 1 ∷ 0 ∷ []

-- an authority below which there is none
abbrev pub is_last_authority : List ℕ → Head → Bool
is_last_authority s v = contents_are s v (true_element ++ zero_element)

-- 421 "basic constraints are cA true with path length 0"
abbrev pub rule421 : List ℕ → Standing → List Head
rule421 s e = where_good e (λ x v. broken_at (not (is_last_authority s v)) x.value)

-- 422 "keyCertSign and cRLSign set"
abbrev pub rule422 : List ℕ → Standing → List Head
rule422 s e = where_good e (λ x v. broken_at (not (signs_for_authority (usage_of s v))) x.value)

-- 423 "each OCSP entry not an HTTP URI"
abbrev pub rule423 : List ℕ → Standing → List Head
rule423 s e = where_good e (λ x v. filter (not_http_by s Ocsp) (members_in s v))

-- 424 "each URI in a CRL point's full name not HTTP"
abbrev pub rule424 : List ℕ → Standing → List Head
rule424 s e = where_good e (λ x v. filter (is_other_uri s) (full_names_in s v))

unfoldable pub authority_rows : List ℕ → Standing → Standing → Standing → Standing → List Row
authority_rows s constraints usage access points =
    421 for subordinate ⦂ rule421 s constraints
    ∷ 422 for subordinate ⦂ rule422 s usage
    ∷ 423 for subordinate ⦂ rule423 s access
    ∷ 424 for subordinate ⦂ rule424 s points
    ∷ []
