-- "A time is either UTCTime or GeneralizedTime, kept with the form it had: YYMMDDHHMMSSZ (50 to 99 is 19YY) or YYYYMMDDHHMMSSZ"
-- (document 01, "Certificate"). All definitions go by the contents of the element.
use Rattle.std.specs.Prelude.{List, Bool, cond, ◌&&◌, ℕ, ◌+◌, ◌*◌, Option, None, length, ltb, eqb}
use Rattle.std.specs.Bool.{then_some}
use Prim.Native.Char.{code}
use Rattle.times.specs.declared.calendar.Date.{Date}
use Rattle.times.specs.declared.validity.Time.{Time}
use Rattle.times.specs.declared.validity.Time.TheVariants.{Utc, General}
use Rattle.times.specs.Calendar.{date_ok}
use Rattle.times.specs.Validity.{date_of}
use Rattle.octets.specs.Octets.{octet_at, octets_from}
use Rattle.octets.specs.Characters.{are_digits, digit_of}
use Rattle.der.specs.Tags.{utc_time_tag, generalized_time_tag}

-- the first octets, so many, are digits
abbrev pub digits_first : ℕ → List ℕ → Bool
digits_first digits contents = are_digits (octets_from contents 0 digits)

-- so many digits, Z, and nothing more
unfoldable pub digits_and_z : ℕ → List ℕ → Bool
digits_and_z digits contents =
    eqb (length contents) (digits + 1) && (digits_first digits contents && eqb (octet_at contents digits) (code "Z"))

-- the number that the two digits at place k say
abbrev pub two_at : ℕ → List ℕ → ℕ
two_at k contents = 10 * digit_of (octet_at contents k) + digit_of (octet_at contents (k + 1))

-- MMDDHHMMSS from place k on, in a year
unfoldable pub date_at : ℕ → ℕ → List ℕ → Date
date_at k year contents =
    record {
      year = year;
      month = two_at k contents;
      day = two_at (k + 2) contents;
      hour = two_at (k + 4) contents;
      minute = two_at (k + 6) contents;
      second = two_at (k + 8) contents;
    }

-- "50 to 99 is 19YY"
abbrev pub full_year : ℕ → ℕ
full_year year = cond (ltb year 50) (2000 + year) (1900 + year)

abbrev pub utc_date : List ℕ → Date
utc_date contents = date_at 2 (full_year (two_at 0 contents)) contents

abbrev pub general_date : List ℕ → Date
general_date contents = date_at 4 (100 * two_at 0 contents + two_at 2 contents) contents

-- the time, if it is written as it should be and its date is a real one
unfoldable pub if_real : Bool → Time → Option Time
if_real written t = then_some (written && date_ok (date_of t)) t

-- by the tag
unfoldable pub time_of : ℕ → List ℕ → Option Time
time_of tag contents =
    cond (eqb tag utc_time_tag) (if_real (digits_and_z 12 contents) (Utc (utc_date contents)))
    (cond (eqb tag generalized_time_tag) (if_real (digits_and_z 14 contents) (General (general_date contents))) None)
