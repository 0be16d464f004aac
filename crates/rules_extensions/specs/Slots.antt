-- Rules 300+s, 320+s and 340+s, for a slot s of the table (document 01, "Rules on extensions").
use Rattle.std.specs.Prelude.{Bool, true, false, cond, List, [], ◌∷◌, map, ℕ, ◌+◌, ◌-◌}
use Rattle.der.specs.declared.header.Head.{Head}
use Rattle.profiles.specs.Extensions.{criticality_of, is_miscritical, mandatory_in, listed_in}
use Rattle.profiles.specs.declared.fields.Profile.{Profile}
use Rattle.certificate.specs.Slots.{numbers_from, slot_count}
use Rattle.certificate.specs.Standing.{Standing, standing_at}
use Rattle.certificate.specs.declared.extensions.Extension.{Extension}
use Rattle.certificate.specs.declared.fields.Certificate.{Certificate}
use Rattle.report.specs.Rows.{Row, ◌for◌⦂◌, broken_at}
use Rattle.rules_extensions.specs.declared.slots.Question.{Question}
use Rattle.rules_extensions.specs.declared.slots.Question.TheVariants.{Missing, Criticality, Value}

-- "at the extension list, or TBS"
abbrev pub list_place : Certificate → Head
list_place c = cond c.extensions.sound c.extensions c.tbs

-- ---- by how an extension stands

abbrev pub is_missing : Standing → Bool
is_missing Standing.missing = true
is_missing (Standing.bad x) = false
is_missing (Standing.good x v) = false

-- what breaks a rule on an Extension that is there, whatever its value
abbrev pub where_there : Standing → (Extension → List Head) → List Head
where_there Standing.missing broken = []
where_there (Standing.bad x) broken = broken x
where_there (Standing.good x v) broken = broken x

-- ---- the rules

-- 300+s "an M missing (at the extension list, or TBS)"
abbrev pub rule300 : Head → Standing → List Head
rule300 list e = broken_at (is_missing e) list

-- 320+s "critical where the table has no "crit", or the reverse"; "320+s .. at the Extension"
abbrev pub is_miscritical_at : Profile → ℕ → Bool → Bool
is_miscritical_at p k critical = is_miscritical (criticality_of p k) critical

abbrev pub rule320 : Profile → ℕ → Standing → List Head
rule320 p k e = where_there e (λ x. broken_at (is_miscritical_at p k x.critical) x.place)

-- 340+s "value is not exactly one sound element of its RFC ASN.1 .. (at the OCTET STRING ..)"
abbrev pub rule340 : Standing → List Head
rule340 Standing.missing = []
rule340 (Standing.bad x) = x.value ∷ []
rule340 (Standing.good x v) = []

-- a question's rule for slot k, in the profiles whose columns ask for it
abbrev pub row_at : Question → Profile → Head → ℕ → Standing → Row
row_at Missing p list k e = (300 + k) for mandatory_in k ⦂ rule300 list e
row_at Criticality p list k e = (320 + k) for listed_in k ⦂ rule320 p k e
row_at Value p list k e = (340 + k) for listed_in k ⦂ rule340 e

-- for slots 1, 2 and on to the table's end
unfoldable pub rows_over : Question → Profile → Head → List Standing → List Row
rows_over question p list table = map (λ k. row_at question p list k (standing_at table k)) (numbers_from 1 (slot_count - 1))
