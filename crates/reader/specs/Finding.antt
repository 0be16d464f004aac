-- What stands at a position of a deck.
use Rattle.std.specs.Prelude.{Bool, true, false, cond, List, ℕ, ◌*◌, ltb, length}
use Rattle.blocks.specs.Block.{record_number, record_length}
use Rattle.blocks.specs.Record.{parts}
use Rattle.reader.specs.Runs.{from, first_block, starts}
use Rattle.reader.specs.Events.{loss_of}
use Rattle.reader.specs.declared.finding.Found.{Found}
use Rattle.reader.specs.declared.finding.Found.TheVariants.{Record, Lost, End}

abbrev pub found_if : Bool → List (List ℕ) → Found
found_if true bs = Record (record_number (first_block bs)) (record_length (first_block bs))
found_if false bs = Lost (loss_of (first_block bs))

unfoldable pub found_at : List ℕ → ℕ → Found
found_at deck position = cond (ltb (512 * position) (length deck)) (found_if (starts (from deck position)) (from deck position)) End

-- how many blocks are passed with it
abbrev pub blocks_in : Found → ℕ
blocks_in (Record number n) = parts n
blocks_in (Lost loss) = 1
blocks_in End = 0
