-- Rules 407 and 408 (document 01, "Rules on extensions"; document 02, CR 1). Slot 5 is extended key usage.
use Rattle.std.specs.Prelude.{not, List, [], ◌∷◌, ℕ}
use Rattle.der.specs.declared.header.Head.{Head}
use Rattle.certificate.specs.Standing.{Standing}
use Rattle.forms.specs.Values.{where_good}
use Rattle.der.specs.Elements.{any_of}
use Rattle.der.specs.Members.{members_in}
use Rattle.profiles.specs.Judged.{server_and_responder, every_profile}
use Rattle.profiles.specs.declared.fields.Profile.{Profile}
use Rattle.forms.specs.Kinds.{is_wanted_purpose, is_other_purpose}
use Rattle.report.specs.Forms.{filter}
use Rattle.report.specs.Rows.{Row, ◌for◌⦂◌, broken_at}

-- 407 "serverAuth (S) or OCSPSigning (O) present"; "407 (serverAuth)" (CR 1)
abbrev pub rule407 : Profile → List ℕ → Standing → List Head
rule407 p s e = where_good e (λ x v. broken_at (not (any_of (is_wanted_purpose p s) (members_in s v))) x.value)

-- 408 "each other purpose, clientAuth excepted for S"
abbrev pub rule408 : Profile → List ℕ → Standing → List Head
rule408 p s e = where_good e (λ x v. filter (is_other_purpose p s) (members_in s v))

unfoldable pub purpose_rows : Profile → List ℕ → Standing → List Row
purpose_rows p s e = 407 for every_profile ⦂ rule407 p s e ∷ 408 for server_and_responder ⦂ rule408 p s e ∷ []
