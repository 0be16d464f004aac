-- A validity's times, "kept with the form it had", and rules 109 to 111 (document 01, "Rules on fields"; document 02, CR 2), and what 508 asks of one (CR 4).
use Rattle.std.specs.Prelude.{Bool, false, ◌&&◌, ℕ, ◌+◌, ◌-◌, ◌*◌, ltb, leb}
use Rattle.times.specs.declared.calendar.Date.{Date}
use Rattle.times.specs.declared.validity.Time.{Time}
use Rattle.times.specs.declared.validity.Time.TheVariants.{Utc, General}
use Rattle.times.specs.declared.validity.Validity.{Validity}
use Rattle.times.specs.Calendar.{seconds_of}
use Rattle.times.specs.Anniversary.{anniversary_of}

abbrev pub date_of : Time → Date
date_of (Utc d) = d
date_of (General d) = d

-- a time as a number that can be compared and subtracted, whatever its form
unfoldable pub moment_of : Time → ℕ
moment_of t = seconds_of (date_of t)

-- on this date or later: 508 asks a PIV card for a UUID "if notBefore falls on 16 October 2015 or later" (document 02, CR 4)
abbrev pub is_since : Date → Time → Bool
is_since from t = leb (seconds_of from) (moment_of t)

-- 109 "each GeneralizedTime before 2050"
abbrev pub early_general : Time → Bool
early_general (Utc d) = false
early_general (General d) = ltb d.year 2050

-- the reverse of 110, "notAfter not before notBefore"
abbrev pub reversed_of : Validity → Bool
reversed_of v = ltb (moment_of v.not_after) (moment_of v.not_before)

-- "The validity period for a certificate is the period of time from notBefore through notAfter, inclusive" (RFC 5280, 4.1.2.5)
abbrev pub is_valid_at : Validity → ℕ → Bool
is_valid_at v moment = leb (moment_of v.not_before) moment && leb moment (moment_of v.not_after)

-- the number of its seconds, both ends counted: "notAfter minus notBefore plus one second" (document 02, CR 2); none if the times are reversed
abbrev pub span_of : Validity → ℕ
span_of v = moment_of v.not_after + 1 - moment_of v.not_before

-- 111 "compares notAfter minus notBefore plus one second with the limit" (CR 2), in days "of 86,400 seconds"
abbrev pub within_days_of : Validity → ℕ → Bool
within_days_of v limit = leb (span_of v) (86400 * limit)

-- 111 for a limit in years: "the last permitted second is the one before the .. anniversary" (CR 2)
abbrev pub within_years_of : Validity → ℕ → Bool
within_years_of v years = ltb (moment_of v.not_after) (seconds_of (anniversary_of years (date_of v.not_before)))
