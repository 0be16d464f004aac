-- How long a validity is, and how long it may be (document 02, CR 1 and CR 2): no word here of how code comes by it.
--     valid_behind, valid_not_earlier     the moments of a validity are those from notBefore on, as many as its span says
--     span_apart                          "notAfter minus notBefore plus one second"
--     span_none                           reversed times leave no moment
--     days_end                            the last permitted second is the one before as many days are over
--     years_counted                       so many years by the calendar are a limit for the same span
--     past_9999                           an anniversary past the year 9999 breaks nothing
--     years_exactly                       ten years from noon of a 29 February: up to the second before noon of the 28th
-- Assumes nothing.
use mathlib.Core.Path.{◌≡◌, refl}
use mathlib.Core.Bool.{true, false}
use Prim.Native.Nat.{ℕ, suc, ◌+◌, ◌-◌, ◌*◌, ◌≤◌, ◌<◌}
use native.Mathlib.Omega.{arith}
use lib.Dec.{ltb, leb}
use borrow.Author.Tests.{ltb-true, lt-ltb, le-leb, lt-leb}
use Rattle.times.specs.declared.calendar.Date.{Date}
use Rattle.times.specs.declared.validity.Time.TheVariants.{Utc}
use Rattle.times.specs.declared.validity.Validity.{Validity}
use Rattle.times.specs.Calendar.{days_of, seconds_of, before_year, before_month, date_ok}
use Rattle.times.specs.Anniversary.{anniversary_of}
use Rattle.times.specs.Validity.{date_of, moment_of, reversed_of, is_valid_at, span_of, within_days_of, within_years_of}
use Rattle.octets.proofs.Laws.Tests.{leb_same}
use Rattle.times.proofs.Laws.Calendar.{later_year}
use Rattle.times.proofs.Laws.Anniversary.{anniversary_later}

-- ---- the span

pub valid_behind : (v : Validity) (k : ℕ) → is_valid_at v (moment_of v.not_before + k) ≡ ltb k (span_of v)
valid_behind v k =
    let start = moment_of v.not_before in
    let end = moment_of v.not_after in
    rw (le-leb start (start + k) (omega arith)) (leb_same (start + k) end (suc k) (span_of v) (λ l. omega arith) (λ l. omega arith))

pub valid_not_earlier : (v : Validity) (moment : ℕ) → moment < moment_of v.not_before → is_valid_at v moment ≡ false
valid_not_earlier v moment h = rw (lt-leb (moment_of v.not_before) moment h)

pub span_apart : (v : Validity) → moment_of v.not_before ≤ moment_of v.not_after
    → span_of v ≡ moment_of v.not_after - moment_of v.not_before + 1
span_apart v h = omega arith

pub span_none : (v : Validity) → reversed_of v ≡ true → span_of v ≡ 0
span_none v e = let h = ltb-true (moment_of v.not_after) (moment_of v.not_before) e in omega arith

-- ---- the limits

pub days_end : (v : Validity) (limit : ℕ) → within_days_of v limit ≡ ltb (moment_of v.not_after) (moment_of v.not_before + 86400 * limit)
days_end v limit =
    leb_same (span_of v) (86400 * limit) (suc (moment_of v.not_after)) (moment_of v.not_before + 86400 * limit) (λ l. omega arith) (λ l. omega arith)

pub years_counted : (v : Validity) (years : ℕ) → 0 < years
    → within_years_of v years ≡ leb (span_of v) (seconds_of (anniversary_of years (date_of v.not_before)) - moment_of v.not_before)
unfolding moment_of
years_counted v years h = go (moment_of v.not_before) (moment_of v.not_after) _ (anniversary_later years (date_of v.not_before) h)
  where
    go : (a b end : ℕ) → a < end → ltb b end ≡ leb (b + 1 - a) (end - a)
    go a b end l = leb_same (suc b) end (b + 1 - a) (end - a) (λ k. omega arith) (λ k. omega arith)

pub past_9999 : (v : Validity) (years : ℕ) → date_ok (date_of v.not_after) ≡ true → (date_of v.not_after).year ≤ 9999
    → 9999 < (date_of v.not_before).year + years → within_years_of v years ≡ true
unfolding moment_of anniversary_of
past_9999 v years ok h l =
    let end = anniversary_of years (date_of v.not_before) in
    lt-ltb (moment_of v.not_after) (seconds_of end) (later_year (date_of v.not_after) end ok (omega arith))

-- ---- an example

abbrev pub date_with : ℕ → ℕ → ℕ → ℕ → ℕ → ℕ → Date
date_with year month day hour minute second = record { year = year; month = month; day = day; hour = hour; minute = minute; second = second }

abbrev pub from_leap_day : Date → Validity
from_leap_day d = record { not_before = Utc (date_with 2024 2 29 12 0 0); not_after = Utc d }

pub years_exactly : (within_years_of (from_leap_day (date_with 2034 2 28 11 59 59)) 10 ≡ true) × (within_years_of (from_leap_day (date_with 2034 2 28 12 0 0)) 10 ≡ false)
unfolding moment_of seconds_of days_of before_year before_month anniversary_of
years_exactly = (refl, refl)
