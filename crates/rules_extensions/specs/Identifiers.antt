-- Rules 361 to 363 of an extension list (document 01, "Rules on extensions"); "361 to 363 at the Extension".
use Rattle.std.specs.Prelude.{Bool, List, [], ◌∷◌, ℕ}
use Rattle.der.specs.Members.{members_in}
use Rattle.der.specs.declared.header.Head.{Head}
use Rattle.profiles.specs.Judged.{S, O, every_profile}
use Rattle.profiles.specs.declared.fields.Profile.{Profile}
use Rattle.forms.specs.Kinds.{unwanted_by, out_of_place_by}
use Rattle.report.specs.Forms.{filter}
use Rattle.report.specs.Rows.{Row, ◌for◌⦂◌}

-- `seen` says of an extension in the list whether it has "an identifier seen before"

-- 361 "each later extension with an identifier seen before"
abbrev pub rule361 : List ℕ → Head → (Head → Bool) → List Head
rule361 s list seen = filter seen (members_in s list)

-- 362 "each extension "no" or not in the table, save private key usage period 2.5.29.16"
abbrev pub rule362 : Profile → List ℕ → Head → (Head → Bool) → List Head
rule362 p s list seen = filter (unwanted_by p seen s) (members_in s list)

-- 363 "each critical one that is "other" or not in the table"
abbrev pub rule363 : Profile → List ℕ → Head → (Head → Bool) → List Head
rule363 p s list seen = filter (out_of_place_by p seen s) (members_in s list)

unfoldable pub identifier_rows : Profile → List ℕ → Head → (Head → Bool) → List Row
identifier_rows p s list seen =
    361 for every_profile ⦂ rule361 s list seen
    ∷ 362 for O ⦂ rule362 p s list seen
    ∷ 363 for S ⦂ rule363 p s list seen
    ∷ []
