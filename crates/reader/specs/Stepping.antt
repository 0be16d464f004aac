-- One step of the reader, complete: what it says, and what the room holds then. "The reader's caller lends it the linter's room, which it passes on
-- whole" (document 01, "The deck").
use Rattle.std.specs.Prelude.{cond, List, [], ◌∷◌, ◌≡◌, ℕ, ◌*◌, ltb, length}
use Rattle.reader.specs.Runs.{from, starts}
use Rattle.reader.specs.Events.{Event, record_at, lost_at, event_if}
use Rattle.reader.specs.declared.stepping.Record.{Record}
use Rattle.reader.specs.declared.stepping.Item.{Item}
use Rattle.refusals.specs.declared.table.Values.{Values}
use Rattle.blocks.specs.Record.{parts, profile_in, certificate_octets, issuer_octets}
use Rattle.lint.specs.Refusals.{answer_values}
use Rattle.lint.specs.Values.{lint_values}
use Rattle.lint.specs.Answers.{answer_of, room_of}
use Rattle.reader.specs.declared.stepping.Item.TheVariants as Items

-- record `number` with octets p, as the linter answers it in the room
abbrev pub linted_record : ℕ → List ℕ → List ℕ → Record
linted_record number p room =
    record {
      number = number;
      profile = profile_in p;
      length = length p;
      answer = answer_of (certificate_octets p) (issuer_octets p) (profile_in p) room;
    }

unfoldable pub linted_room : List ℕ → List ℕ → List ℕ
linted_room p room = room_of (certificate_octets p) (issuer_octets p) (profile_in p) room

-- an event as the reader hands it out, and the room then
abbrev pub item_of : List ℕ → Event → Item
item_of room (record_at position number p) = Items.Record (linted_record number p room)
item_of room (lost_at position loss) = Items.Lost loss

abbrev pub room_after : List ℕ → Event → List ℕ
room_after room (record_at position number p) = linted_room p room
room_after room (lost_at position loss) = room

-- how many blocks are passed with an item
abbrev pub item_blocks : Item → ℕ
item_blocks (Items.Record r) = parts r.length
item_blocks (Items.Lost loss) = 1
item_blocks Items.End = 0

-- what stands at a position
abbrev pub event_at : List ℕ → ℕ → Event
event_at deck position = event_if (starts (from deck position)) position (from deck position)

unfoldable pub item_at : List ℕ → ℕ → List ℕ → Item
item_at deck position room = cond (ltb (512 * position) (length deck)) (item_of room (event_at deck position)) Items.End

unfoldable pub room_at : List ℕ → ℕ → List ℕ → List ℕ
room_at deck position room = cond (ltb (512 * position) (length deck)) (room_after room (event_at deck position)) room

-- ---- the paper's values

-- what the table of refusals gives for a record with octets p
unfoldable pub record_values : List ℕ → List ℕ → Values
record_values p room = lint_values (certificate_octets p) (issuer_octets p) (profile_in p) room

-- of an item: a record's answer has values, a lost block has none
abbrev pub item_values : Item → List Values
item_values (Items.Record r) = answer_values r.answer ∷ []
item_values (Items.Lost loss) = []
item_values Items.End = []

abbrev pub event_values : List ℕ → Event → List Values
event_values room (record_at position number p) = record_values p room ∷ []
event_values room (lost_at position loss) = []

unfoldable pub values_at : List ℕ → ℕ → List ℕ → List Values
values_at deck position room = cond (ltb (512 * position) (length deck)) (event_values room (event_at deck position)) []

-- ---- the whole of it

pub record Stepped (deck : List ℕ) (position : ℕ) (room : List ℕ) (r : Item) (last : List ℕ) : Type 0 where
  pub told : r ≡ item_at deck position room
  pub values : item_values r ≡ values_at deck position room
  pub bytes : last ≡ room_at deck position room
