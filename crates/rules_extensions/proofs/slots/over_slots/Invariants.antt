-- `rules_extensions::slots::over_slots` meets its contract. The invariant: the rules of the slots from this one on are still to be put. Assumes nothing.
use mathlib.Core.List.{List}
use Prim.Native.Nat.{ℕ, ◌≤◌}
use Rattle.rules_extensions.specs.Slots.{row_at}
use Rattle.rules_extensions.specs.declared.slots.Question.{Question}
use Rattle.der.specs.declared.header.Head.{Head}
use Rattle.profiles.specs.declared.fields.Profile.{Profile}
use Rattle.certificate.specs.Slots.{slot_count}
use Rattle.certificate.specs.Standing.{standing_by}
use Rattle.certificate.specs.declared.slots.Slot.{Slot}
use Rattle.facts.specs.Case.{slot_in}
use Rattle.report.specs.Rows.{Row, findings_of}
use Rattle.report.proofs.Laws.Sinks.{Left}
use Rattle.rules_extensions.proofs.Laws.Slots.{rows_from}
use Rattle.rules_extensions.proofs.slots.over_slots.Given as goal

abbrev row_in : Question → Profile → Head → List Slot → ℕ → Row
row_in question p list each k = row_at question p list k (standing_by (slot_in each k))

abbrev pub invariant-loop-slot : goal.invariant-loop-slot
invariant-loop-slot l = (l.slot ≤ slot_count)
    × Left (findings_of l.p (rows_from (row_in l.question l.p l.list l.each) l.slot)) (findings_of l.p (rows_from (row_in l.question l.p l.list l.each) 1)) l.initial.sink l.sink
