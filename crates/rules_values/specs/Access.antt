-- Rules 415 to 417 (document 01, "Rules on extensions"; document 02, CR 1). Slot 8 is authority information access.
use Rattle.std.specs.Prelude.{not, List, [], ◌∷◌, ℕ}
use Rattle.der.specs.declared.header.Head.{Head}
use Rattle.certificate.specs.Standing.{Standing}
use Rattle.forms.specs.Values.{where_good}
use Rattle.der.specs.Elements.{any_of}
use Rattle.der.specs.Members.{members_in}
use Rattle.locations.specs.Access.{uri_by, not_http_by}
use Rattle.locations.specs.declared.access.Method.{Method}
use Rattle.locations.specs.declared.access.Method.TheVariants.{Ocsp, CaIssuers}
use Rattle.report.specs.Forms.{filter}
use Rattle.profiles.specs.Judged.{server_and_subordinate, every_profile}
use Rattle.report.specs.Rows.{Row, ◌for◌⦂◌, broken_at}

-- an entry with this method and a URI
abbrev pub uri_wanted : Method → List ℕ → Standing → List Head
uri_wanted method s e = where_good e (λ x v. broken_at (not (any_of (uri_by s method) (members_in s v))) x.value)

-- 415 "an OCSP entry with a URI"
abbrev pub rule415 : List ℕ → Standing → List Head
rule415 s e = uri_wanted Ocsp s e

-- 416 "a caIssuers entry with a URI"
abbrev pub rule416 : List ℕ → Standing → List Head
rule416 s e = uri_wanted CaIssuers s e

-- 417 "each caIssuers entry not an HTTP URI"
abbrev pub rule417 : List ℕ → Standing → List Head
rule417 s e = where_good e (λ x v. filter (not_http_by s CaIssuers) (members_in s v))

unfoldable pub access_rows : List ℕ → Standing → List Row
access_rows s e = 415 for server_and_subordinate ⦂ rule415 s e ∷ 416 for every_profile ⦂ rule416 s e ∷ 417 for server_and_subordinate ⦂ rule417 s e ∷ []
