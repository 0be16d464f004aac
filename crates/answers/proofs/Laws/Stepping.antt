-- A room that is lent again at each step of the reader.
--     goes_on     what a step leaves of the deck, and of the room, ends as before
--     at_end      a step that passes no block
-- Assumes nothing.
use mathlib.Core.Path.{◌≡◌}
use mathlib.Core.Logic.{⊎_elim}
use mathlib.Core.List.{List}
use Prim.Native.Nat.{ℕ, ◌+◌, ◌*◌, ◌≤◌, ◌<◌}
use native.Mathlib.Omega.{arith}
use lib.ListN.{length}
use Rattle.answers.specs.Rooms.{room_past}
use Rattle.blocks.proofs.Laws.Logic.{below_or_not}
use Rattle.reader.specs.Events.{events_from}
use Rattle.reader.specs.Stepping.{item_blocks, item_at, room_at}
use Rattle.reader.proofs.Laws.Places.{from_nil}
use Rattle.reader.proofs.Laws.Counts.{reads_on}
use Rattle.reader.proofs.Laws.Passing.{item_blocks_lem, item_moves}
use Rattle.reader.proofs.Laws.Walking.{room_is, room_ended}

module _ (d : List ℕ) (i : ℕ) (room : List ℕ) where
  inside : 512 * i < length d → room_past (room_at d i room) (events_from d (i + item_blocks (item_at d i room))) ≡ room_past room (events_from d i)
  inside h = rw (room_is d i h room, item_blocks_lem d i room, reads_on d i h)

  past : length d ≤ 512 * i → room_past (room_at d i room) (events_from d (i + item_blocks (item_at d i room))) ≡ room_past room (events_from d i)
  past h = rw (room_ended d i room h, from_nil d i h, from_nil d (i + item_blocks (item_at d i room)) (omega arith))

  pub goes_on : room_past (room_at d i room) (events_from d (i + item_blocks (item_at d i room))) ≡ room_past room (events_from d i)
  goes_on = ⊎_elim inside past (below_or_not (512 * i) (length d))

  pub at_end : item_blocks (item_at d i room) ≡ 0 → room_at d i room ≡ room_past room (events_from d i)
  at_end e =
      ⊎_elim
      (λ (h : 512 * i < length d). absurd (omega (arith, e, item_moves d i room h)))
      (λ (h : length d ≤ 512 * i). rw (room_ended d i room h, from_nil d i h))
      (below_or_not (512 * i) (length d))
