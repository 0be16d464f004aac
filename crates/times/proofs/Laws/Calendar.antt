-- Days counted month by month and year by year.
--     month_next                       the days before the next month
--     months_early, months_late        the days before a month, in a leap year and in another
--     year_next, year_count            the days before the next year; those before a year, counted at once
--     years_apart                      from a year to a later one it is 365 days a year or more
--     real_day, real_time              the day of a real date, and its time of day
--     later_year                       a real date comes before each of a later year
-- Assumes nothing.
use mathlib.Core.Path.{◌≡◌, refl}
use mathlib.Core.Bool.{Bool, true, false, cond, not, ◌&&◌, ◌||◌}
use Prim.Native.Nat.{ℕ, zero, suc, ◌+◌, ◌-◌, ◌*◌, ◌/◌, ◌%◌, ◌≤◌, ◌<◌}
use native.Mathlib.Nat.{add-zero}
use native.Mathlib.Numerals.{add-one}
use native.Mathlib.Omega.{arith}
use lib.Dec.{ltb, leb, eqb}
use borrow.Author.Tests.{ltb-true, leb-true, eqb-true, eqb-false, le-leb, lt-leb, ne_eqb}
use Rattle.times.specs.declared.calendar.Date.{Date}
use Rattle.times.specs.Calendar.{leap_year, month_length, before_month, before_year, days_of, seconds_of, date_ok}
use Rattle.octets.proofs.Laws.Tests.{and_l, and_r}

pub month_next : (leap : Bool) (month : ℕ) → before_month leap (month + 1) ≡ before_month leap month + month_length leap month
unfolding before_month
month_next leap month = rw add-one

pub months_early : (leap other : Bool) (month : ℕ) → month < 3 → before_month leap month ≡ before_month other month
unfolding before_month
months_early leap other zero h = refl
months_early leap other (suc zero) h = refl
months_early leap other (suc (suc zero)) h = refl
months_early leap other (suc (suc (suc month))) h = absurd (omega arith)

-- from March on a leap year is a day ahead
ahead : (leap : Bool) (k : ℕ) → before_month leap (k + 3) ≡ before_month false (k + 3) + cond leap 1 0
unfolding before_month
ahead true zero = refl
ahead false zero = refl
ahead leap (suc k) =
    let n : eqb (k + 3) 2 ≡ false = ne_eqb (k + 3) 2 (λ e. omega arith) in
    let e : month_length leap (k + 3) ≡ month_length false (k + 3) = rw n in
    let s : suc k + 3 ≡ k + 3 + 1 = omega arith in
    rw (s, month_next leap (k + 3), month_next false (k + 3))
    (go (before_month leap (k + 3)) (before_month false (k + 3)) (month_length leap (k + 3)) (month_length false (k + 3)) (cond leap 1 0) (ahead leap k) e)
  where
    go : (a b m n l : ℕ) → a ≡ b + l → m ≡ n → a + m ≡ b + n + l
    go a b m n l e f = omega arith

pub months_late : (leap : Bool) (month : ℕ) → 3 ≤ month → before_month leap month ≡ before_month false month + cond leap 1 0
months_late leap month h =
    let e : month - 3 + 3 ≡ month = omega arith in
    rw e at (ahead leap (month - 3))

months_rise : (leap : Bool) (month k : ℕ) → before_month leap month ≤ before_month leap (month + k)
months_rise leap month zero = rw add-zero (omega arith)
months_rise leap month (suc k) =
    let e : month + suc k ≡ month + k + 1 = omega arith in
    let h = months_rise leap month k in
    rw (e, month_next leap (month + k)) (omega arith)

-- past December all months are counted
no_month : (leap : Bool) (month : ℕ) → 12 < month → month_length leap month ≡ 0
no_month leap month h =
    let not : (m : ℕ) → m ≤ 12 → eqb month m ≡ false = λ m l. ne_eqb month m (λ e. omega arith) in
    rw (
      not 2 (omega arith),
      not 4 (omega arith),
      not 6 (omega arith),
      not 9 (omega arith),
      not 11 (omega arith),
      le-leb 1 month (omega arith),
      lt-leb month 12 h,
    )

whole_year : (leap : Bool) (k : ℕ) → before_month leap (k + 13) ≡ 365 + cond leap 1 0
unfolding before_month
whole_year true zero = refl
whole_year false zero = refl
whole_year leap (suc k) =
    let e : suc k + 13 ≡ k + 13 + 1 = omega arith in
    rw (e, month_next leap (k + 13), no_month leap (k + 13) (omega arith), add-zero) (whole_year leap k)

month_in_year : (leap : Bool) (month : ℕ) → before_month leap month + month_length leap month ≤ 365 + cond leap 1 0
month_in_year leap month =
    let n = month_next leap month in
    let r = months_rise leap (month + 1) 13 in
    let w = whole_year leap (month + 1) in
    omega (arith, n, r, w)

-- ---- years

positive : (n : ℕ) → eqb n 0 ≡ false → 0 < n
positive zero e = absurd (eqb-false 0 0 e refl)
positive (suc n) e = omega arith

-- there is a multiple more below the next year if the year is one
next_4 : (y : ℕ) (t : Bool) → eqb (y % 4) 0 ≡ t → (y + 4) / 4 ≡ (y + 3) / 4 + cond t 1 0
next_4 y true e = let h = eqb-true (y % 4) 0 e in omega arith
next_4 y false e = let h = positive (y % 4) e in omega arith

next_100 : (y : ℕ) (t : Bool) → eqb (y % 100) 0 ≡ t → (y + 100) / 100 ≡ (y + 99) / 100 + cond t 1 0
next_100 y true e = let h = eqb-true (y % 100) 0 e in omega arith
next_100 y false e = let h = positive (y % 100) e in omega arith

next_400 : (y : ℕ) (t : Bool) → eqb (y % 400) 0 ≡ t → (y + 400) / 400 ≡ (y + 399) / 400 + cond t 1 0
next_400 y true e = let h = eqb-true (y % 400) 0 e in omega arith
next_400 y false e = let h = positive (y % 400) e in omega arith

-- a multiple of 100 is one of 4, and a multiple of 400 one of 100
hundred : (y : ℕ) → eqb (y % 100) 0 ≡ true → eqb (y % 4) 0 ≡ false → ⊥
hundred y e f = let h = eqb-true (y % 100) 0 e in let k = positive (y % 4) f in omega arith

four_hundred : (y : ℕ) → eqb (y % 400) 0 ≡ true → eqb (y % 100) 0 ≡ false → ⊥
four_hundred y e f = let h = eqb-true (y % 400) 0 e in let k = positive (y % 100) f in omega arith

-- what a year adds to those counts
leap_adds : (y : ℕ) → cond (leap_year y) 1 0 + ((y + 3) / 4 + (y + 100) / 100 + (y + 399) / 400) ≡ (y + 4) / 4 + (y + 99) / 100 + (y + 400) / 400
leap_adds y = go (eqb (y % 4) 0) (eqb (y % 100) 0) (eqb (y % 400) 0) refl refl refl
  where
    sum : (a b c : Bool) (k m n : ℕ) → eqb (y % 4) 0 ≡ a → eqb (y % 100) 0 ≡ b → eqb (y % 400) 0 ≡ c
        → cond (a && (not b || c)) 1 0 + (k + (m + cond b 1 0) + n) ≡ k + cond a 1 0 + m + (n + cond c 1 0)
    sum true true true k m n p q r = omega arith
    sum true true false k m n p q r = omega arith
    sum true false true k m n p q r = absurd (four_hundred y r q)
    sum true false false k m n p q r = omega arith
    sum false true c k m n p q r = absurd (hundred y q p)
    sum false false true k m n p q r = absurd (four_hundred y r q)
    sum false false false k m n p q r = omega arith

    go : (a b c : Bool) → eqb (y % 4) 0 ≡ a → eqb (y % 100) 0 ≡ b → eqb (y % 400) 0 ≡ c
        → cond (a && (not b || c)) 1 0 + ((y + 3) / 4 + (y + 100) / 100 + (y + 399) / 400) ≡ (y + 4) / 4 + (y + 99) / 100 + (y + 400) / 400
    go a b c p q r = rw (next_4 y a p, next_100 y b q, next_400 y c r) (sum a b c ((y + 3) / 4) ((y + 99) / 100) ((y + 399) / 400) p q r)

year_step : (y b l a₁ a₂ b₁ b₂ c₁ c₂ : ℕ) → b + b₁ ≡ 365 * y + a₁ + c₁ → l + (a₁ + b₂ + c₁) ≡ a₂ + b₁ + c₂
    → b + (365 + l) + b₂ ≡ 365 * suc y + a₂ + c₂
year_step y b l a₁ a₂ b₁ b₂ c₁ c₂ e f = omega arith

year_sum : (y : ℕ) → before_year y + (y + 99) / 100 ≡ 365 * y + (y + 3) / 4 + (y + 399) / 400
unfolding before_year
year_sum zero = refl
year_sum (suc y) =
    let a : suc y + 3 ≡ y + 4 = omega arith in
    let b : suc y + 99 ≡ y + 100 = omega arith in
    let c : suc y + 399 ≡ y + 400 = omega arith in
    rw (a, b, c) (year_step y (before_year y) (cond (leap_year y) 1 0) ((y + 3) / 4) ((y + 4) / 4) ((y + 99) / 100) ((y + 100) / 100)
    ((y + 399) / 400) ((y + 400) / 400) (year_sum y) (leap_adds y))

pub year_count : (y : ℕ) → 365 * y + (y + 3) / 4 - (y + 99) / 100 + (y + 399) / 400 ≡ before_year y
year_count y = go ((y + 3) / 4) ((y + 99) / 100) ((y + 399) / 400) (year_sum y) (omega arith)
  where
    go : (a b c : ℕ) → before_year y + b ≡ 365 * y + a + c → b ≤ 365 * y + a → 365 * y + a - b + c ≡ before_year y
    go a b c e l = omega arith

pub year_next : (y : ℕ) → before_year (y + 1) ≡ before_year y + (365 + cond (leap_year y) 1 0)
unfolding before_year
year_next y = rw add-one

pub years_apart : (y n : ℕ) → before_year y + 365 * n ≤ before_year (y + n)
years_apart y zero = let e : y + 0 ≡ y = omega arith in rw e (omega arith)
years_apart y (suc n) =
    let e : y + suc n ≡ y + n + 1 = omega arith in
    let h = years_apart y n in
    rw (e, year_next (y + n)) (omega arith)

-- ---- dates

pub real_day : (d : Date) → date_ok d ≡ true → (1 ≤ d.day) × (d.day ≤ month_length (leap_year d.year) d.month)
unfolding date_ok
real_day d ok =
    let last = month_length (leap_year d.year) d.month in
    let t = and_l (leb 1 d.day && leb d.day last) _ ok in
    (leb-true 1 d.day (and_l (leb 1 d.day) (leb d.day last) t), leb-true d.day last (and_r (leb 1 d.day) (leb d.day last) t))

pub real_time : (d : Date) → date_ok d ≡ true → (ltb d.hour 24 && (ltb d.minute 60 && ltb d.second 60)) ≡ true
unfolding date_ok
real_time d ok = and_r (leb 1 d.day && leb d.day (month_length (leap_year d.year) d.month)) _ ok

day_in_year : (d : Date) → date_ok d ≡ true → days_of d < before_year (d.year + 1)
unfolding days_of
day_in_year d ok =
    let leap = leap_year d.year in
    go (before_year d.year) (before_year (d.year + 1)) (before_month leap d.month) (month_length leap d.month) (cond leap 1 0) d.day
    (year_next d.year) (month_in_year leap d.month) (real_day d ok).0 (real_day d ok).1
  where
    go : (y n m l a day : ℕ) → n ≡ y + (365 + a) → m + l ≤ 365 + a → 1 ≤ day → day ≤ l → y + (m + (day - 1)) < n
    go y n m l a day e h f g = omega arith

day_ends : (d : Date) → date_ok d ≡ true → seconds_of d < 86400 * (days_of d + 1)
unfolding seconds_of
day_ends d ok =
    let time = real_time d ok in
    let rest = and_r (ltb d.hour 24) (ltb d.minute 60 && ltb d.second 60) time in
    let h : d.hour < 24 = ltb-true d.hour 24 (and_l (ltb d.hour 24) (ltb d.minute 60 && ltb d.second 60) time) in
    let m : d.minute < 60 = ltb-true d.minute 60 (and_l (ltb d.minute 60) (ltb d.second 60) rest) in
    let s : d.second < 60 = ltb-true d.second 60 (and_r (ltb d.minute 60) (ltb d.second 60) rest) in
    omega arith

days_first : (d : Date) → 86400 * before_year d.year ≤ seconds_of d
unfolding seconds_of days_of
days_first d = omega arith

pub later_year : (d e : Date) → date_ok d ≡ true → d.year < e.year → seconds_of d < seconds_of e
later_year d e ok h =
    let s : d.year + 1 + (e.year - (d.year + 1)) ≡ e.year = omega arith in
    let a = rw s at (years_apart (d.year + 1) (e.year - (d.year + 1))) in
    omega (arith, a, day_in_year d ok, day_ends d ok, days_first e)
