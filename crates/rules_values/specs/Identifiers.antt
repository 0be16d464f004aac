-- Rules 401 to 403 (document 01, "Rules on extensions"; document 02, CR 1). "Place: the OCTET STRING", which is the Extension's value.
use Rattle.std.specs.Prelude.{Bool, false, not, List, [], ◌∷◌, ℕ, ◌-◌, ltb, eqb, Option, Some, None}
use Rattle.std.specs.Bool.{then_some}
use Rattle.octets.specs.Same.{same_by, exactly}
use Rattle.der.specs.Contents.{contents_of}
use Rattle.der.specs.Members.{first_in}
use Rattle.der.specs.Tags.{context_tag}
use Rattle.der.specs.declared.header.Head.{Head}
use Rattle.certificate.specs.Standing.{Standing}
use Rattle.forms.specs.Values.{where_good}
use Rattle.profiles.specs.Judged.{S, every_profile}
use Rattle.report.specs.Rows.{Row, ◌for◌⦂◌, broken_at}

-- AuthorityKeyIdentifier ::= SEQUENCE { keyIdentifier [0] KeyIdentifier OPTIONAL, .. }: the first member, if its tag is [0]
abbrev pub authority_key : List ℕ → Head → Option (List ℕ)
authority_key s v = then_some (eqb (first_in s v).tag (context_tag 0)) (contents_of s (first_in s v))

-- both are there, and are the same octets
abbrev pub same_key : Option (List ℕ) → Option (List ℕ) → Bool
same_key None b = false
same_key (Some a) None = false
same_key (Some a) (Some b) = same_by exactly a b

unfoldable pub is_held_by : List ℕ → Head → Option (List ℕ) → Bool
is_held_by s v key = same_key (authority_key s v) key

-- 401 "key identifier present and equal to the issuer's subject key id (broken if the issuer has none, or a bad one)"
abbrev pub rule401 : List ℕ → Option (List ℕ) → Standing → List Head
rule401 s key e = where_good e (λ x v. broken_at (not (is_held_by s v key)) x.value)

abbrev pub is_filled : Head → Bool
is_filled v = ltb v.body v.end

-- 402 "basic constraints empty"
abbrev pub rule402 : Standing → List Head
rule402 e = where_good e (λ x v. broken_at (is_filled v) x.value)

abbrev pub is_twenty : Head → Bool
is_twenty v = eqb (v.end - v.body) 20

-- 403 "subject key id 20 octets"
abbrev pub rule403 : Standing → List Head
rule403 e = where_good e (λ x v. broken_at (not (is_twenty v)) x.value)

unfoldable pub key_identifier_rows : List ℕ → Option (List ℕ) → Standing → Standing → Standing → List Row
key_identifier_rows s key authority constraints subject =
    401 for every_profile ⦂ rule401 s key authority
    ∷ 402 for S ⦂ rule402 constraints
    ∷ 403 for every_profile ⦂ rule403 subject
    ∷ []
