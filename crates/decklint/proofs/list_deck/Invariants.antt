-- The measure is what is left of the deck: a buffer that has space for any item takes one at each turn. The buffer keeps its length.
use Rattle.std.proofs.Common.{◌≡◌, ◌-◌, ◌*◌, length}
use Rattle.decklint.proofs.list_deck.Given as goal

abbrev pub invariant-loop-filling : goal.invariant-loop-filling
invariant-loop-filling g l = length l.out ≡ length l.initial.out

abbrev pub decreases-loop-filling : goal.decreases-loop-filling
decreases-loop-filling g l = length l.deck - 512 * l.progress.position
