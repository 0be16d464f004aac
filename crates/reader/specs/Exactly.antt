-- The reading as document 01 states it, with no order of reading: a record at each block that starts a run, every block in no run lost.
use Rattle.std.specs.Prelude.{Bool, true, false, ◌||◌, List, [], ◌∷◌, ◌++◌, ℕ, zero, suc, ◌+◌, ltb, drop}
use Rattle.blocks.specs.Tests.{◌and◌}
use Rattle.blocks.specs.Block.{record_length}
use Rattle.blocks.specs.Record.{parts}
use Rattle.reader.specs.Runs.{first_block, starts}
use Rattle.reader.specs.Events.{Event, event_if}

-- how many blocks the run has that starts at position a
abbrev pub run_length : List (List ℕ) → ℕ → ℕ
run_length bs a = parts (record_length (first_block (drop a bs)))

-- the block at position i lies in a run that starts at a position below a
abbrev pub in_run : List (List ℕ) → ℕ → ℕ → Bool
in_run bs i zero = false
in_run bs i (suc a) = (starts (drop a bs) and ltb i (a + run_length bs a)) || in_run bs i a

-- what is found at the block at position i, by whether a run starts there and whether it lies in one
abbrev pub mark_if : Bool → Bool → ℕ → List (List ℕ) → List Event
mark_if true covered i bs = event_if true i bs ∷ []
mark_if false true i bs = []
mark_if false false i bs = event_if false i bs ∷ []

-- what is found at the n blocks from position i on
abbrev pub marks : List (List ℕ) → ℕ → ℕ → List Event
marks bs i zero = []
marks bs i (suc n) = mark_if (starts (drop i bs)) (in_run bs i i) i (drop i bs) ++ marks bs (suc i) n
