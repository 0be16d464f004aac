-- `reader::finding::are_parts` meets its contract: the blocks are the parts exactly if those from j on are. Assumes nothing.
use mathlib.Core.Path.{◌≡◌}
use Prim.Native.Nat.{◌+◌, ◌*◌, ◌-◌, ◌≤◌}
use lib.ListN.{length}
use Rattle.reader.specs.Runs.{from, are_parts}
use Rattle.reader.proofs.finding.are_parts.Given as goal

abbrev pub invariant-loop-j : goal.invariant-loop-j
invariant-loop-j l = (l.j ≤ l.k) × (512 * (l.position + l.j) ≤ length l.deck)
    × (are_parts l.number l.n 0 l.k (from l.deck l.position) ≡ are_parts l.number l.n l.j (l.k - l.j) (from l.deck (l.position + l.j)))
