-- "Counts of records and lost blocks equal the lengths of the defined lists" (document 01, "How much the contracts must say").
use Rattle.std.specs.Prelude.{List, [], ◌∷◌, ℕ, length}
use Rattle.reader.specs.Events.{Event, record_at, lost_at, events}
use Rattle.reader.specs.declared.counting.Counts.{Counts}

-- the events that hand out a record
abbrev pub records_in : List Event → List Event
records_in [] = []
records_in (record_at position number p ∷ es) = record_at position number p ∷ records_in es
records_in (lost_at position loss ∷ es) = records_in es

-- the events that list a block as lost
abbrev pub lost_in : List Event → List Event
lost_in [] = []
lost_in (record_at position number p ∷ es) = lost_in es
lost_in (lost_at position loss ∷ es) = lost_at position loss ∷ lost_in es

unfoldable pub tally_of : List ℕ → Counts
tally_of deck = record { records = length (records_in (events deck)); lost = length (lost_in (events deck)) }
