-- Rules 109 to 111 (document 01, "Rules on fields"; document 02, CR 1 and CR 2).
use Rattle.std.specs.Prelude.{Bool, not, List, [], ◌∷◌, ◌++◌}
use Rattle.der.specs.declared.header.Head.{Head}
use Rattle.times.specs.Validity.{early_general, reversed_of, within_days_of, within_years_of}
use Rattle.times.specs.declared.validity.Validity.{Validity}
use Rattle.profiles.specs.Judged.{every_profile}
use Rattle.profiles.specs.Fields.{limit_of}
use Rattle.profiles.specs.declared.fields.Limit.{Limit}
use Rattle.profiles.specs.declared.fields.Limit.TheVariants.{Days, Years}
use Rattle.profiles.specs.declared.fields.Profile.{Profile}
use Rattle.certificate.specs.declared.fields.Certificate.{Certificate}
use Rattle.report.specs.Rows.{Row, ◌for◌⦂◌, broken_at}

-- 109 "each GeneralizedTime before 2050"
abbrev pub rule109 : Certificate → List Head
rule109 c =
    broken_at (early_general c.validity.not_before) c.not_before ++ broken_at (early_general c.validity.not_after) c.not_after

-- 110 "notAfter not before notBefore"; "110 and 111 at the validity"
abbrev pub rule110 : Certificate → List Head
rule110 c = broken_at (reversed_of c.validity) c.period

-- so many days, or so many years by the calendar
abbrev pub within_limit : Validity → Limit → Bool
within_limit v (Days days) = within_days_of v days
within_limit v (Years years) = within_years_of v years

-- 111 "at most 395 days (S), 45 days (O), of 86,400 seconds"; "111 allows ten years" (CR 1); "111 now compares notAfter minus notBefore plus one second
-- with the limit" (CR 2)
abbrev pub rule111 : Profile → Certificate → List Head
rule111 p c = broken_at (not (within_limit c.validity (limit_of p))) c.period

unfoldable pub validity_rows : Profile → Certificate → List Row
validity_rows p c = 109 for every_profile ⦂ rule109 c ∷ 110 for every_profile ⦂ rule110 c ∷ 111 for every_profile ⦂ rule111 p c ∷ []
