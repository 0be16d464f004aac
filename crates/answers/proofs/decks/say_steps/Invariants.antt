-- The measure is the number of octets that are left of the deck. The invariant: no block past the deck's end is passed, and what is left of the deck
-- leaves the room as all of it does.
use Rattle.std.proofs.Common.{◌≡◌, ◌+◌, ◌-◌, ◌*◌, ◌≤◌, length}
use Rattle.reader.specs.Events.{events, events_from}
use Rattle.answers.specs.Rooms.{room_past}
use Rattle.answers.proofs.decks.say_steps.Given as goal

abbrev pub invariant-loop-item : goal.invariant-loop-item
invariant-loop-item g l =
    (512 * l.position ≤ length l.deck + 511) × (room_past l.room (events_from l.deck l.position) ≡ room_past l.initial.room (events l.deck))

abbrev pub decreases-loop-item : goal.decreases-loop-item
decreases-loop-item g l = length l.deck + 511 - 512 * l.position
