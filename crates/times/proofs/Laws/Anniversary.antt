-- What an anniversary is by the calendar (document 02, CR 1): no word here of how code comes by it.
--     leap_day_gone        ten years after a leap year there is no 29 February, nor after any other number that is no multiple of four
--     anniversary_real     a real date's anniversary is a real date
--     anniversary_days     from a date to its anniversary it is the days of whole years, each with a 29 February that comes between;
--                          from a 29 February on one less
--     anniversary_later    an anniversary comes after its date
-- Assumes nothing.
use mathlib.Core.Path.{◌≡◌, refl, ap, ◌∙◌}
use mathlib.Core.Bool.{Bool, true, false, cond, not, ◌&&◌, ◌||◌}
use Prim.Native.Nat.{ℕ, ◌+◌, ◌-◌, ◌*◌, ◌%◌, ◌≤◌, ◌<◌}
use native.Mathlib.Omega.{arith}
use lib.Dec.{ltb, leb, eqb}
use borrow.Author.Tests.{ltb-true, ltb-false, eqb-true, eqb-false, le-leb, ne_eqb}
use Rattle.times.specs.declared.calendar.Date.{Date}
use Rattle.times.specs.Calendar.{leap_year, month_length, before_month, before_year, days_of, seconds_of, date_ok}
use Rattle.times.specs.Anniversary.{is_leap_day, yearly_day, anniversary_of}
use Rattle.octets.proofs.Laws.Tests.{and_l}
use Rattle.times.proofs.Laws.Calendar.{months_early, months_late, year_next, years_apart, real_day, real_time}

pub leap_day_gone : (y years : ℕ) → 0 < years % 4 → leap_year y ≡ true → leap_year (y + years) ≡ false
leap_day_gone y years h leap =
    let four : y % 4 ≡ 0 = eqb-true (y % 4) 0 (and_l (eqb (y % 4) 0) (not (eqb (y % 100) 0) || eqb (y % 400) 0) leap) in
    rw (ne_eqb ((y + years) % 4) 0 (λ e. omega arith))

-- ---- a real date

-- a day that a month has in some year, it has in every year, once the 29th of February is its 28th
yearly_fits : (leap other : Bool) (month day : ℕ) → day ≤ month_length leap month → cond (eqb month 2 && eqb day 29) 28 day ≤ month_length other month
yearly_fits leap other month day h = go (eqb month 2) (eqb day 29) refl refl
  where
    has_28 : (t : Bool) → 28 ≤ cond t 29 28
    has_28 true = omega arith
    has_28 false = omega arith

    before_29 : (s t : Bool) → day ≤ cond s 29 28 → (day ≡ 29 → ⊥) → day ≤ cond t 29 28
    before_29 true true l n = l
    before_29 true false l n = omega arith
    before_29 false true l n = omega arith
    before_29 false false l n = l

    go : (a b : Bool) → eqb month 2 ≡ a → eqb day 29 ≡ b → cond (eqb month 2 && eqb day 29) 28 day ≤ month_length other month
    go true true p q = rw (p, q) (has_28 other)
    go true false p q = rw (p, q) (before_29 leap other (rw p at h) (eqb-false day 29 q))
    go false b p q = rw p (rw p at h)

yearly_first : (t : Bool) (day : ℕ) → 1 ≤ day → 1 ≤ cond t 28 day
yearly_first true day h = omega arith
yearly_first false day h = h

pub anniversary_real : (years : ℕ) (d : Date) → date_ok d ≡ true → date_ok (anniversary_of years d) ≡ true
unfolding date_ok anniversary_of
anniversary_real years d ok =
    let leap = leap_year (d.year + years) in
    let first : leb 1 (yearly_day d) ≡ true = le-leb 1 (yearly_day d) (yearly_first (is_leap_day d) d.day (real_day d ok).0) in
    let last : leb (yearly_day d) (month_length leap d.month) ≡ true =
    le-leb (yearly_day d) (month_length leap d.month) (yearly_fits (leap_year d.year) leap d.month d.day (real_day d ok).1) in
    rw (first, last) (real_time d ok)

-- ---- the days

-- the year whose February ends next, on a date or after it
abbrev pub february_ends : Date → ℕ
february_ends d = cond (ltb d.month 3) d.year (d.year + 1)

-- the 28th for the 29th is one day less
day_less : (month day : ℕ) → cond (eqb month 2 && eqb day 29) 28 day - 1 + cond (eqb month 2 && eqb day 29) 1 0 ≡ day - 1
day_less month day = go (eqb month 2) (eqb day 29) refl
  where
    go : (a b : Bool) → eqb day 29 ≡ b → cond (a && b) 28 day - 1 + cond (a && b) 1 0 ≡ day - 1
    go true true q = let e = eqb-true day 29 q in omega arith
    go true false q = omega arith
    go false b q = omega arith

early : (y z m n x w l : ℕ) → n ≡ m → w + l ≡ x → z + (n + w) + l + y ≡ y + (m + x) + z
early y z m n x w l e f = omega arith

late : (y z m n p q k j x w l c : ℕ) → m ≡ c + k → n ≡ c + j → p ≡ y + (365 + k) → q ≡ z + (365 + j) → w + l ≡ x
    → z + (n + w) + l + p ≡ y + (m + x) + q
late y z m n p q k j x w l c a b e f g = omega arith

count : (y years month day : ℕ) (t : Bool) → ltb month 3 ≡ t
    → before_year (y + years) + (before_month (leap_year (y + years)) month + (cond (eqb month 2 && eqb day 29) 28 day - 1))
    + cond (eqb month 2 && eqb day 29) 1 0 + before_year (cond t y (y + 1))
    ≡ before_year y + (before_month (leap_year y) month + (day - 1)) + before_year (cond t y (y + 1) + years)
count y years month day true e =
    early (before_year y) (before_year (y + years)) (before_month (leap_year y) month) (before_month (leap_year (y + years)) month) (day - 1) _ _
    (months_early (leap_year (y + years)) (leap_year y) month (ltb-true month 3 e)) (day_less month day)
count y years month day false e =
    let far : y + 1 + years ≡ y + years + 1 = omega arith in
    let m : 3 ≤ month = ltb-false month 3 e in
    late (before_year y) (before_year (y + years)) (before_month (leap_year y) month) (before_month (leap_year (y + years)) month) (before_year (y + 1))
    (before_year (y + 1 + years)) (cond (leap_year y) 1 0) (cond (leap_year (y + years)) 1 0) (day - 1) _ _ (before_month false month)
    (months_late (leap_year y) month m) (months_late (leap_year (y + years)) month m) (year_next y) (ap before_year far ∙ year_next (y + years))
    (day_less month day)

pub anniversary_days : (years : ℕ) (d : Date)
    → days_of (anniversary_of years d) + cond (is_leap_day d) 1 0 + before_year (february_ends d) ≡ days_of d + before_year (february_ends d + years)
unfolding days_of anniversary_of
anniversary_days years d = count d.year years d.month d.day (ltb d.month 3) refl

pub anniversary_later : (years : ℕ) (d : Date) → 0 < years → seconds_of d < seconds_of (anniversary_of years d)
unfolding seconds_of anniversary_of
anniversary_later years d h =
    let a = years_apart (february_ends d) years in
    let e = anniversary_days years d in
    go (days_of d) (days_of (anniversary_of years d)) (before_year (february_ends d)) (before_year (february_ends d + years)) (is_leap_day d)
    (3600 * d.hour + (60 * d.minute + d.second)) e (omega arith)
  where
    go : (n m y z : ℕ) (t : Bool) (c : ℕ) → m + cond t 1 0 + y ≡ n + z → y + 365 ≤ z → 86400 * n + c < 86400 * m + c
    go n m y z true c e f = omega arith
    go n m y z false c e f = omega arith
