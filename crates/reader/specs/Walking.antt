-- What a caller gets who steps from a position to the end of the deck and lends the same room at each step.
use Rattle.std.specs.Prelude.{List, [], ◌∷◌, ℕ, zero, suc, ◌+◌}
use Rattle.lint.specs.Answers.{report_of}
use Rattle.reader.specs.Events.{Event, record_at, lost_at}
use Rattle.reader.specs.Finding.{found_at, blocks_in}
use Rattle.reader.specs.Stepping.{item_at, room_at, item_of, room_after}
use Rattle.reader.specs.declared.stepping.Item.{Item}
use Rattle.reader.specs.declared.stepping.Item.TheVariants as Items

-- what a step hands over: where, what, and in the front of the room the report
pub record Handed : Type 0 where
  pub position : ℕ
  pub item : Item
  pub report : List ℕ

abbrev pub report_in : Item → List ℕ → List ℕ
report_in (Items.Record r) room = report_of r.answer room
report_in (Items.Lost loss) room = []
report_in Items.End room = []

abbrev pub handed_at : ℕ → Item → List ℕ → Handed
handed_at position item room = record { position = position; item = item; report = report_in item room }

-- the walk ends where the deck does
abbrev pub unless_end : Item → Handed → List Handed → List Handed
unless_end (Items.Record r) handed later = handed ∷ later
unless_end (Items.Lost loss) handed later = handed ∷ later
unless_end Items.End handed later = []

-- at most n steps
abbrev pub walk : ℕ → List ℕ → ℕ → List ℕ → List Handed
walk zero deck position room = []
walk (suc n) deck position room =
    unless_end (item_at deck position room) (handed_at position (item_at deck position room) (room_at deck position room))
    (walk n deck (position + blocks_in (found_at deck position)) (room_at deck position room))

abbrev pub position_of : Event → ℕ
position_of (record_at position number p) = position
position_of (lost_at position loss) = position

-- an event as it is handed over in a room
abbrev pub handed_over : List ℕ → Event → Handed
handed_over room e = handed_at (position_of e) (item_of room e) (room_after room e)

abbrev pub all_handed_over : List ℕ → List Event → List Handed
all_handed_over room [] = []
all_handed_over room (e ∷ es) = handed_over room e ∷ all_handed_over room es
