-- "A place is a start and a length in the certificate" (document 01, "The report").
use Rattle.std.specs.Prelude.{ℕ, ◌+◌, ◌-◌, min}
use Rattle.octets.specs.Numbers.{largest}
use Rattle.octets.specs.declared.places.Place.{Place}

-- the place of an element that starts at start and ends before end
abbrev pub place_from : ℕ → ℕ → Place
place_from start end = record { start = start; len = end - start }

-- where a place ends, as far as a usize counts
abbrev pub end_of : Place → ℕ
end_of p = min (p.start + p.len) largest
