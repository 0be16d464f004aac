-- Document 01's table ("Rules on extensions"), column by column, with the column that document 02 adds (CR 1), and what its words mean for the rules.
use Rattle.std.specs.Prelude.{Bool, true, false, cond, not, ◌||◌, List, [], ◌∷◌, ℕ, eqb, get_or}
use Rattle.profiles.specs.Fields.{profile_number}
use Rattle.profiles.specs.declared.fields.Profile.{Profile}
use Rattle.profiles.specs.declared.fields.Profile.TheVariants.{Domain, Organization, Responder, Subordinate}
use Rattle.profiles.specs.declared.extensions.Mark.{Mark}
use Rattle.profiles.specs.declared.extensions.Mark.TheVariants.{Mandatory, Optional, Forbidden, Other, Unlisted}
use Rattle.profiles.specs.declared.extensions.Criticality.{Criticality}
use Rattle.profiles.specs.declared.extensions.Criticality.TheVariants.{Must, MustNot, NotJudged}

-- columns S and O, from slot 1 on: authority key id, basic constraints, subject key id, key usage, extended key usage, policies, alternative name,
-- AIA, CRL points, nocheck. "For S and O, 11", name constraints, "counts as not in the table".
abbrev pub server_column : List Mark
server_column =
    Mandatory ∷ Mandatory ∷ Mandatory ∷ Mandatory ∷ Mandatory ∷ Mandatory ∷ Mandatory ∷ Mandatory ∷ Optional ∷ Other ∷ []

abbrev pub responder_column : List Mark
responder_column =
    Mandatory ∷ Forbidden ∷ Mandatory ∷ Mandatory ∷ Mandatory ∷ Mandatory ∷ Optional ∷ Mandatory ∷ Optional ∷ Mandatory ∷ []

-- "Extensions 1 to 6, 8, 9 and slot 11, name constraints 2.5.29.30, are mandatory, 7 optional, 10 "other"" (CR 1)
abbrev pub subordinate_column : List Mark
subordinate_column =
    Mandatory ∷ Mandatory ∷ Mandatory ∷ Mandatory ∷ Mandatory ∷ Mandatory ∷ Optional ∷ Mandatory ∷ Mandatory ∷ Other ∷ Mandatory ∷ []

-- what a column says of a slot; slot 0 stands for the extensions that are not in the table
abbrev pub mark_in : List Mark → ℕ → Mark
mark_in column slot = get_or (Unlisted ∷ column) slot Unlisted

abbrev pub mark_of : Profile → ℕ → Mark
mark_of Domain slot = mark_in server_column slot
mark_of Organization slot = mark_in server_column slot
mark_of Responder slot = mark_in responder_column slot
mark_of Subordinate slot = mark_in subordinate_column slot

-- "crit", or none: an extension without it must not be critical
abbrev pub crit_if : Bool → Criticality
crit_if written = cond written Must MustNot

-- "crit": basic constraints 2 and key usage 4 in column S, key usage 4 and extended key usage 5 in column O; "2, 4 and 11 are critical" (CR 1)
abbrev pub criticality_of : Profile → ℕ → Criticality
criticality_of Domain slot = crit_if (eqb slot 2 || eqb slot 4)
criticality_of Organization slot = crit_if (eqb slot 2 || eqb slot 4)
criticality_of Responder slot = crit_if (eqb slot 4 || eqb slot 5)
criticality_of Subordinate slot = crit_if (eqb slot 2 || (eqb slot 4 || eqb slot 11))

-- 320+s "critical where the table has no "crit", or the reverse"
abbrev pub is_miscritical : Criticality → Bool → Bool
is_miscritical Must critical = not critical
is_miscritical MustNot critical = critical
is_miscritical NotJudged critical = false

-- "an M"
abbrev pub is_mandatory : Mark → Bool
is_mandatory Mandatory = true
is_mandatory Optional = false
is_mandatory Forbidden = false
is_mandatory Other = false
is_mandatory Unlisted = false

-- "an extension marked "no" or "other" gets neither" 320+s nor 340+s
abbrev pub is_judged : Mark → Bool
is_judged Mandatory = true
is_judged Optional = true
is_judged Forbidden = false
is_judged Other = false
is_judged Unlisted = false

-- the profiles in whose column a test of the marks passes
abbrev pub numbers_where : (Profile → Bool) → List Profile → List ℕ
numbers_where test [] = []
numbers_where test (p ∷ ps) = cond (test p) (profile_number p ∷ numbers_where test ps) (numbers_where test ps)

abbrev pub profiles_where : (Profile → Bool) → List ℕ
profiles_where test = numbers_where test (Domain ∷ Organization ∷ Responder ∷ Subordinate ∷ [])

-- 300+s is for those in which the extension is "an M"
abbrev pub mandatory_in : ℕ → List ℕ
mandatory_in slot = profiles_where (λ p. is_mandatory (mark_of p slot))

-- 320+s and 340+s are for those in which it is not "no" or "other"
abbrev pub listed_in : ℕ → List ℕ
listed_in slot = profiles_where (λ p. is_judged (mark_of p slot))

-- 362 ""no" or not in the table"
abbrev pub is_unwanted : Mark → Bool
is_unwanted Mandatory = false
is_unwanted Optional = false
is_unwanted Forbidden = true
is_unwanted Other = false
is_unwanted Unlisted = true

-- 363 ""other" or not in the table"
abbrev pub is_out_of_place : Mark → Bool
is_out_of_place Mandatory = false
is_out_of_place Optional = false
is_out_of_place Forbidden = false
is_out_of_place Other = true
is_out_of_place Unlisted = true
