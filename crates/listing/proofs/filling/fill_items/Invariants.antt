-- The measure is what is left of the deck. The invariant: the room keeps its length, the text its buffer, and the portion of what is left of the deck
-- is what is left of the whole portion.
use Rattle.std.proofs.Common.{◌≡◌, ◌-◌, ◌*◌, length}
use Rattle.listing.specs.Filling.{portion_of, items_from}
use Rattle.reader.specs.Runs.{blocks}
use Rattle.listing.proofs.Laws.Filling.{Left}
use Rattle.listing.proofs.filling.fill_items.Given as goal

abbrev pub invariant-loop-room : goal.invariant-loop-room
invariant-loop-room l =
    (length l.room ≡ 65536)
    × (l.text.space.ghost_name ≡ l.initial.text.space.ghost_name)
    × Left (portion_of (length l.fn.out) (length (blocks l.deck)) 0 l.fn.from (items_from l.deck l.fn.from.position)) l.fn.out
    (portion_of (length l.fn.out) (length (blocks l.deck)) l.text.len l.p (items_from l.deck l.p.position)) l.text.len l.text.space.now

abbrev pub decreases-loop-room : goal.decreases-loop-room
decreases-loop-room l = length l.deck - 512 * l.p.position
