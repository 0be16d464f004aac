-- "A real Gregorian date, 00:00:00 to 23:59:59" (document 01, "Certificate"): today's calendar, with 0000 as its first year, a leap year.
use Rattle.std.specs.Prelude.{Bool, cond, not, ◌&&◌, ◌||◌, ℕ, zero, suc, ◌+◌, ◌-◌, ◌*◌, ◌%◌, ltb, leb, eqb}
use Rattle.times.specs.declared.calendar.Date.{Date}

abbrev pub leap_year : ℕ → Bool
leap_year year = eqb (year % 4) 0 && (not (eqb (year % 100) 0) || eqb (year % 400) 0)

-- February; April, June, September and November; all the rest. A month that is none has no days.
abbrev pub month_length : Bool → ℕ → ℕ
month_length leap month =
    cond (eqb month 2) (cond leap 29 28)
    (cond ((eqb month 4 || eqb month 6) || (eqb month 9 || eqb month 11)) 30
    (cond (leb 1 month && leb month 12) 31 0))

-- the days of the months before a month
unfoldable pub before_month : Bool → ℕ → ℕ
before_month leap zero = 0
before_month leap (suc month) = before_month leap month + month_length leap month

-- the days of the years before a year
unfoldable pub before_year : ℕ → ℕ
before_year zero = 0
before_year (suc year) = before_year year + (365 + cond (leap_year year) 1 0)

-- the days before a date
unfoldable pub days_of : Date → ℕ
days_of d = before_year d.year + (before_month (leap_year d.year) d.month + (d.day - 1))

-- the seconds before a date, in days "of 86,400 seconds"
unfoldable pub seconds_of : Date → ℕ
seconds_of d = 86400 * days_of d + (3600 * d.hour + (60 * d.minute + d.second))

-- a day of the calendar, and "00:00:00 to 23:59:59"
unfoldable pub date_ok : Date → Bool
date_ok d =
    (leb 1 d.day && leb d.day (month_length (leap_year d.year) d.month))
    && (ltb d.hour 24 && (ltb d.minute 60 && ltb d.second 60))
