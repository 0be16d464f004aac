-- Rules 409 to 411 (document 01, "Rules on extensions"; document 02, CR 1). Slot 6 is certificate policies.
use Rattle.std.specs.Prelude.{not, List, [], ◌∷◌, ℕ}
use Rattle.der.specs.declared.header.Head.{Head}
use Rattle.certificate.specs.Standing.{Standing}
use Rattle.forms.specs.Values.{where_good}
use Rattle.der.specs.Elements.{any_of}
use Rattle.der.specs.Members.{members_in}
use Rattle.profiles.specs.Judged.{server_and_responder, server_and_subordinate, every_profile}
use Rattle.profiles.specs.declared.fields.Profile.{Profile}
use Rattle.policies.specs.Policies.{policy_below, other_qualifier}
use Rattle.forms.specs.Kinds.{is_forum_policy}
use Rattle.forms.specs.Lists.{items_within}
use Rattle.forms.specs.declared.nests.Nest.TheVariants.{Policy}
use Rattle.report.specs.Forms.{filter}
use Rattle.report.specs.Rows.{Row, ◌for◌⦂◌, broken_at}

-- 409 "a policy below 2.16.840.1.101.3.2.1.3"
abbrev pub rule409 : List ℕ → Standing → List Head
rule409 s e = where_good e (λ x v. broken_at (not (any_of (policy_below s) (members_in s v))) x.value)

-- 410 "2.23.140.1.2.1 (1) or 2.23.140.1.2.2 (2), from the CA/Browser Forum"; "410 (either forum policy)" (CR 1)
abbrev pub rule410 : Profile → List ℕ → Standing → List Head
rule410 p s e = where_good e (λ x v. broken_at (not (any_of (is_forum_policy p s) (members_in s v))) x.value)

-- 411 "each qualifier other than 1.3.6.1.5.5.7.2.1"
abbrev pub rule411 : List ℕ → Standing → List Head
rule411 s e = where_good e (λ x v. filter (other_qualifier s) (items_within Policy s v.body v.end))

unfoldable pub policy_rows : Profile → List ℕ → Standing → List Row
policy_rows p s e =
    409 for every_profile ⦂ rule409 s e
    ∷ 410 for server_and_subordinate ⦂ rule410 p s e
    ∷ 411 for server_and_responder ⦂ rule411 s e
    ∷ []
