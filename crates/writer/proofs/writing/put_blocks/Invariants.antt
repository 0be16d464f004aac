-- `writer::writing::put_blocks` meets its contract: the blocks put so far stand at the front of the room, and the rest of it is as it was.
-- Assumes nothing.
use mathlib.Core.Path.{◌≡◌}
use mathlib.Core.List.{◌++◌}
use Prim.Native.Nat.{◌-◌, ◌*◌, ◌≤◌}
use lib.ListN.{length, drop}
use Rattle.writer.specs.Cutting.{blocks_from, end_to_end}
use Rattle.writer.proofs.writing.put_blocks.Given as goal

abbrev pub invariant-loop-part : goal.invariant-loop-part
invariant-loop-part l = (l.part ≤ l.count) × (length l.room ≡ length l.initial.room) × (l.room ≡ end_to_end (blocks_from l.number l.n 0 l.part l.desk) ++ drop (512 * l.part) l.initial.room)
