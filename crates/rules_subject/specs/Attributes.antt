-- Rules 112 to 119 (document 01, "Rules on fields"; document 02, CR 1).
use Rattle.std.specs.Prelude.{List, [], ◌∷◌, ℕ}
use Rattle.der.specs.declared.header.Head.{Head}
use Rattle.profiles.specs.Judged.{subordinate, every_profile}
use Rattle.profiles.specs.Fields.{common_name, country, organization, state_or_province, takes_utf8}
use Rattle.profiles.specs.declared.fields.Profile.{Profile}
use Rattle.subjects.specs.Texts.{is_other_country, is_other_organization, is_other_state}
use Rattle.forms.specs.Kinds.{has_arc, is_foreign}
use Rattle.forms.specs.Lists.{attributes_in}
use Rattle.report.specs.Forms.{filter, ones_of}
use Rattle.report.specs.Rows.{Row, ◌for◌⦂◌}

-- "one X", X by its arc below 2.5.4: "an entry at the subject name if none, and at each further X"
abbrev pub one_of : ℕ → List ℕ → Head → List Head
one_of arc s name = ones_of name (filter (has_arc s arc) (attributes_in s name))

-- 112 "each subject attribute besides CN, C (1); CN, C, O, ST (2); CN, C, O, OU (O)"; "112 allows CN, C, O" (CR 1)
abbrev pub rule112 : Profile → List ℕ → Head → List Head
rule112 p s name = filter (is_foreign p s) (attributes_in s name)

-- 113 "one CN"
abbrev pub rule113 : List ℕ → Head → List Head
rule113 s name = one_of common_name s name

-- 114 "one C"
abbrev pub rule114 : List ℕ → Head → List Head
rule114 s name = one_of country s name

-- 115 "each C is PrintableString "US""
abbrev pub rule115 : List ℕ → Head → List Head
rule115 s name = filter (is_other_country s) (attributes_in s name)

-- 116 "one O"
abbrev pub rule116 : List ℕ → Head → List Head
rule116 s name = one_of organization s name

-- 117 "each O is "U.S. Government""; "O in PrintableString only" (CR 1)
abbrev pub rule117 : Profile → List ℕ → Head → List Head
rule117 p s name = filter (is_other_organization (takes_utf8 p) s) (attributes_in s name)

-- 118 "one ST"
abbrev pub rule118 : List ℕ → Head → List Head
rule118 s name = one_of state_or_province s name

-- 119 "each ST is "District of Columbia""
abbrev pub rule119 : List ℕ → Head → List Head
rule119 s name = filter (is_other_state s) (attributes_in s name)

unfoldable pub country_rows : Profile → List ℕ → Head → List Row
country_rows p s name =
    112 for every_profile ⦂ rule112 p s name
    ∷ 113 for every_profile ⦂ rule113 s name
    ∷ 114 for every_profile ⦂ rule114 s name
    ∷ 115 for every_profile ⦂ rule115 s name
    ∷ []

unfoldable pub organization_rows : Profile → List ℕ → Head → List Row
organization_rows p s name =
    116 for (2 ∷ 3 ∷ subordinate) ⦂ rule116 s name
    ∷ 117 for (2 ∷ 3 ∷ subordinate) ⦂ rule117 p s name
    ∷ 118 for (2 ∷ []) ⦂ rule118 s name
    ∷ 119 for (2 ∷ []) ⦂ rule119 s name
    ∷ []
