-- What reading a deck finds, block after block: "Every block in no such run is lost: "short" (under 512 octets, at the end), "unsound" (check
-- differs), else "stray"" (document 01, "The deck"). specs/Exactly.antt says the same with no order of reading.
use Rattle.std.specs.Prelude.{Bool, true, false, List, [], ◌∷◌, ℕ, zero, suc, pred, ltb, length}
use Rattle.blocks.specs.Block.{sound, record_number, record_length}
use Rattle.blocks.specs.Record.{parts}
use Rattle.reader.specs.Runs.{blocks, from, first_block, starts, record_from}
use Rattle.reader.specs.declared.finding.Loss.{Loss}
use Rattle.reader.specs.declared.finding.Loss.TheVariants.{Short, Unsound, Stray}

pub data Event : Type 0 where
  -- a record that starts at a position: its number and its octets
  record_at : ℕ → ℕ → List ℕ → Event
  -- the block at a position, lost
  lost_at : ℕ → Loss → Event

abbrev pub loss_if : Bool → Bool → Loss
loss_if true s = Short
loss_if false true = Stray
loss_if false false = Unsound

unfoldable pub loss_of : List ℕ → Loss
loss_of b = loss_if (ltb (length b) 512) (sound b)

-- what stands at the first of the blocks, whose position is given, where a run starts there and where not
abbrev pub event_if : Bool → ℕ → List (List ℕ) → Event
event_if true position bs = record_at position (record_number (first_block bs)) (record_from bs)
event_if false position bs = lost_at position (loss_of (first_block bs))

-- how many blocks after the first belong to it
abbrev pub more_if : Bool → List (List ℕ) → ℕ
more_if true bs = pred (parts (record_length (first_block bs)))
more_if false bs = 0

-- the blocks from a position on, of which the first `skip` belong to a record that has been handed out
abbrev pub reading : ℕ → ℕ → List (List ℕ) → List Event
reading skip position [] = []
reading zero position (b ∷ bs) =
    event_if (starts (b ∷ bs)) position (b ∷ bs) ∷ reading (more_if (starts (b ∷ bs)) (b ∷ bs)) (suc position) bs
reading (suc skip) position (b ∷ bs) = reading skip (suc position) bs

-- in the order of the blocks
unfoldable pub events : List ℕ → List Event
events deck = reading 0 0 (blocks deck)

-- those from a position on, where no record stands that began before it
abbrev pub events_from : List ℕ → ℕ → List Event
events_from deck position = reading 0 position (from deck position)
