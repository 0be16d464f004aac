-- `certificate::read_slots` meets its contract. The invariant: the slots passed are as they should be. Assumes nothing.
use mathlib.Core.Path.{◌≡◌}
use Prim.Native.Nat.{ℕ, ◌-◌, ◌≤◌}
use lib.ListN.{get_or}
use Rattle.certificate.specs.Slots.{slot_count, by_slot}
use Rattle.certificate.proofs.Laws.Slots.{unread, below}
use Rattle.certificate.proofs.Laws.Values.{slot_or}
use Rattle.certificate.proofs.slots.read_slots.Given as goal

abbrev pub invariant-loop-slot : goal.invariant-loop-slot
invariant-loop-slot l = (l.slot ≤ slot_count) × (l.each ≡ by_slot (below (λ (k : ℕ). slot_or l.s l.none k (get_or l.firsts k unread)) l.none l.slot))
