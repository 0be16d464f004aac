-- `reader::gathering::gather_inside` meets its contract: the desk holds the data of the blocks passed, and behind it what it held. Assumes nothing.
use mathlib.Core.Path.{◌≡◌}
use mathlib.Core.List.{◌++◌}
use Prim.Native.Nat.{◌*◌, ◌-◌, ◌≤◌}
use lib.ListN.{length, drop}
use Rattle.reader.specs.Runs.{from, data_from}
use Rattle.reader.proofs.gathering.gather_inside.Given as goal

abbrev pub invariant-loop-j : goal.invariant-loop-j
invariant-loop-j l = (l.j ≤ l.k) × (length l.desk ≡ length l.initial.desk) × (l.desk ≡ data_from l.j (from l.deck l.position) ++ drop (l.j * 502) l.initial.desk)
