-- "A record written to the deck reads back as it was" (document 00, demand 2): the octets of the record that starts at a block, in a lent buffer.
use Rattle.std.specs.Prelude.{cond, List, ◌++◌, ◌≡◌, ℕ, leb, length, drop, Result, Ok, Err}
use Rattle.reader.specs.Events.{Event, record_at, lost_at}
use Rattle.reader.specs.Stepping.{event_at}
use Rattle.reader.specs.declared.taking.Layout.{Layout}
use Rattle.reader.specs.declared.taking.NotTaken.{NotTaken}
use Rattle.reader.specs.declared.taking.NotTaken.TheVariants.{NoRoom, NoRecord}
use Rattle.blocks.specs.Record.{certificate_length}

-- octets at the front of a buffer, the rest as it was; all of it as it was if it has fewer
unfoldable pub in_front_of : List ℕ → List ℕ → List ℕ
in_front_of p buffer = cond (leb (length p) (length buffer)) (p ++ drop (length p) buffer) buffer

-- how record `number` with octets p lies in the buffer
abbrev pub layout_of : ℕ → List ℕ → Layout
layout_of number p = record { number = number; length = length p; certificate = certificate_length p }

-- what stands at a block, taken into a buffer of so many octets. Past the deck's end no record stands
abbrev pub taken_of : ℕ → Event → Result Layout NotTaken
taken_of room (record_at position number p) = cond (leb (length p) room) (Ok (layout_of number p)) (Err NoRoom)
taken_of room (lost_at position loss) = Err NoRecord

-- the buffer then
abbrev pub buffer_taken : List ℕ → Event → List ℕ
buffer_taken buffer (record_at position number p) = in_front_of p buffer
buffer_taken buffer (lost_at position loss) = buffer

-- the whole of it
pub record TakenRecord (deck : List ℕ) (position : ℕ) (buffer : List ℕ) (r : Result Layout NotTaken) (last : List ℕ) : Type 0 where
  pub told : r ≡ taken_of (length buffer) (event_at deck position)
  pub bytes : last ≡ buffer_taken buffer (event_at deck position)
