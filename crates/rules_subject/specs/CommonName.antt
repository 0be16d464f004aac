-- Rules 120 and 121 (document 01, "Rules on fields"), and 122 (document 02, CR 1).
use Rattle.std.specs.Prelude.{Bool, not, ◌&&◌, List, [], ◌∷◌, ℕ}
use Rattle.der.specs.Contents.{contents_of}
use Rattle.der.specs.Elements.{first_of, is_empty}
use Rattle.der.specs.Members.{members_in}
use Rattle.der.specs.declared.header.Head.{Head}
use Rattle.profiles.specs.Judged.{S, O, subordinate}
use Rattle.profiles.specs.Fields.{common_name}
use Rattle.subjects.specs.Authorities.{is_other_authority}
use Rattle.subjects.specs.Sets.{is_crowded}
use Rattle.subjects.specs.Types.{attribute_value}
use Rattle.hosts.specs.Names.{some_named}
use Rattle.certificate.specs.Standing.{Standing}
use Rattle.forms.specs.Kinds.{has_arc}
use Rattle.forms.specs.Lists.{attributes_in}
use Rattle.forms.specs.Values.{where_good}
use Rattle.report.specs.Forms.{filter}
use Rattle.report.specs.Rows.{Row, ◌for◌⦂◌, broken_at}

-- the first CN of a subject, or an empty element
abbrev pub first_common_name : List ℕ → Head → Head
first_common_name s name = first_of (has_arc s common_name) name.end (attributes_in s name)

-- "the first CN equals at least one dNSName of the subject alternative name, ASCII case ignored. Content octets are compared; without a CN it is not
-- judged"
unfoldable pub is_unnamed : List ℕ → Head → Head → Bool
is_unnamed s cn alternative = not (is_empty cn) && not (some_named s (contents_of s (attribute_value s cn)) (members_in s alternative))

-- 120, at the first CN; the extension is the subject alternative name
abbrev pub rule120 : List ℕ → Head → Standing → List Head
rule120 s name e = where_good e (λ x v. broken_at (is_unnamed s (first_common_name s name) v) (first_common_name s name))

-- 121 "each SET of a subject name with over one member"
abbrev pub rule121 : List ℕ → Head → List Head
rule121 s name = filter (is_crowded s) (members_in s name)

-- 122 "each CN is a PrintableString "US Federal TLS CA x" or "US Federal Test TLS CA x", x a decimal number from 1 without leading zeros"
abbrev pub rule122 : List ℕ → Head → List Head
rule122 s name = filter (is_other_authority s) (attributes_in s name)

unfoldable pub name_rows : List ℕ → Head → Standing → List Row
name_rows s name e = 120 for S ⦂ rule120 s name e ∷ 121 for O ⦂ rule121 s name ∷ 122 for subordinate ⦂ rule122 s name ∷ []
