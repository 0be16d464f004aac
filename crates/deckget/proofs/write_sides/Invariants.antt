-- The measure is the number of octets that are left of the deck. The invariant: the space keeps its length, no block past the deck's end is passed, no
-- more sides are counted than blocks are passed, and they are counted right.
use Rattle.std.proofs.Common.{◌≡◌, ◌*◌, ◌-◌, ◌≤◌, length}
use Rattle.deckget.proofs.Laws.Counting.{Counted}
use Rattle.deckget.proofs.write_sides.Given as goal

abbrev pub invariant-loop-found : goal.invariant-loop-found
invariant-loop-found g l =
    (16384 ≡ length l.space) × ((l.count ≤ l.position) × ((512 * l.position ≤ length l.deck) × Counted l.deck l.number l.side l.position l.count))

abbrev pub decreases-loop-found : goal.decreases-loop-found
decreases-loop-found g l = length l.deck - 512 * l.position
