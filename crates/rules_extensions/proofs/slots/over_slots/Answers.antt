use native.Mathlib.Omega.{arith}
use Rattle.rules_extensions.specs.Slots.{rows_over}
use Rattle.certificate.specs.Slots.{numbers_from}
use Rattle.rules_extensions.proofs.Laws.Slots.{rows_from, slots_turn, slots_end}
use Rattle.rules_extensions.proofs.slots.over_slots.Goals as goal

pub loop-slot-preserved : goal.loop-slot-preserved
loop-slot-preserved c =
    let loop = c.loop-slot in
    (omega arith, slots_turn _ loop.slot _ c.loop-slot-test.true loop.invariant.1 c.of_slot.ensures)

pub returns : goal.returns
unfolding rows_over rows_from numbers_from
returns c =
    let loop = c.loop-slot in
    slots_end _ loop.slot _ c.loop-slot-test.false loop.invariant.1
