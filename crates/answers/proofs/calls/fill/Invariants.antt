-- The invariant: up to place i the room is filled.
use Rattle.std.proofs.Common.{◌≡◌, take}
use Rattle.answers.specs.Rooms.{fresh_room}
use Rattle.answers.proofs.calls.fill.Given as goal

abbrev pub invariant-loop-i : goal.invariant-loop-i
invariant-loop-i l = take l.i l.room ≡ fresh_room l.i
