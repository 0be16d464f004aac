-- Rules 418 and 419 (document 01, "Rules on extensions"; document 02, CR 1). Slot 9 is CRL distribution points.
use Rattle.std.specs.Prelude.{not, List, [], ◌∷◌, ℕ}
use Rattle.der.specs.declared.header.Head.{Head}
use Rattle.certificate.specs.Standing.{Standing}
use Rattle.forms.specs.Values.{where_good}
use Rattle.der.specs.Elements.{any_of}
use Rattle.der.specs.Members.{members_in}
use Rattle.locations.specs.Uris.{is_http}
use Rattle.locations.specs.Points.{is_restricted}
use Rattle.forms.specs.Lists.{items_within}
use Rattle.forms.specs.declared.nests.Nest.TheVariants.{Point}
use Rattle.report.specs.Forms.{filter}
use Rattle.profiles.specs.Judged.{every_profile}
use Rattle.report.specs.Rows.{Row, ◌for◌⦂◌, broken_at}

-- the names of the points' full names
abbrev pub full_names_in : List ℕ → Head → List Head
full_names_in s points = items_within Point s points.body points.end

-- 418 "an HTTP URI in some full name"
abbrev pub rule418 : List ℕ → Standing → List Head
rule418 s e = where_good e (λ x v. broken_at (not (any_of (is_http s) (full_names_in s v))) x.value)

-- 419 "each point with reasons or cRLIssuer"
abbrev pub rule419 : List ℕ → Standing → List Head
rule419 s e = where_good e (λ x v. filter (is_restricted s) (members_in s v))

unfoldable pub point_rows : List ℕ → Standing → List Row
point_rows s e = 418 for every_profile ⦂ rule418 s e ∷ 419 for every_profile ⦂ rule419 s e ∷ []
