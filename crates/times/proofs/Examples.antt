-- Worked examples of the definitions, by computation: what each value says is beside it. Assumes nothing.
use mathlib.Core.Path.{◌≡◌, refl}
use mathlib.Core.List.{[], ◌∷◌}
use mathlib.Core.Bool.{Bool, true, false}
use Prim.Native.Nat.{ℕ}
use Rattle.times.specs.declared.calendar.Date.{Date}
use Rattle.times.specs.declared.validity.Time.{Time}
use Rattle.times.specs.declared.validity.Time.TheVariants.{Utc, General}
use Rattle.times.specs.Calendar.{before_month, before_year, days_of, seconds_of}
use Rattle.times.specs.Validity.{moment_of, is_since}

-- a day's first second, and its last
abbrev first : ℕ → ℕ → ℕ → Date
first year month day = record { year = year; month = month; day = day; hour = 0; minute = 0; second = 0 }

abbrev last : ℕ → ℕ → ℕ → Date
last year month day = record { year = year; month = month; day = day; hour = 23; minute = 59; second = 59 }

-- 508's date
abbrev since : Time → Bool
since t = is_since (first 2015 10 16) t

-- the second before the date, in both forms; its first second, in both forms; the first year that UTCTime says, and the last of both forms
pub since_right : (since (Utc (last 2015 10 15)) ∷ since (General (last 2015 10 15)) ∷ since (Utc (first 2015 10 16)) ∷ since (General (first 2015 10 16))
    ∷ since (Utc (first 1950 1 1)) ∷ since (Utc (last 2049 12 31)) ∷ since (General (last 9999 12 31)) ∷ []) ≡ (false ∷ false ∷ true ∷ true ∷ false ∷ true ∷ true
    ∷ [])
unfolding moment_of seconds_of days_of before_year before_month
since_right = refl
