-- "ten years: same month, day and time ten years on, 28 February for a start on 29 February" (document 02, CR 1).
use Rattle.std.specs.Prelude.{Bool, cond, ◌&&◌, ℕ, ◌+◌, eqb}
use Rattle.times.specs.declared.calendar.Date.{Date}

abbrev pub is_leap_day : Date → Bool
is_leap_day d = eqb d.month 2 && eqb d.day 29

-- "28 February for a start on 29 February", whatever year the anniversary falls in: the tenth after a leap year is never one
abbrev pub yearly_day : Date → ℕ
yearly_day d = cond (is_leap_day d) 28 d.day

-- "same month, day and time" so many years on
unfoldable pub anniversary_of : ℕ → Date → Date
anniversary_of years d =
    record {
      year = d.year + years;
      month = d.month;
      day = yearly_day d;
      hour = d.hour;
      minute = d.minute;
      second = d.second;
    }
