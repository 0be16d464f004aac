use Prim.Native.Nat.{◌-◌}
use native.Mathlib.Omega.{arith}
use Rattle.certificate.proofs.Laws.Slots.{filled_none, filled_next, filled_all}
use Rattle.certificate.proofs.Laws.Values.{slot_or, slots_law}
use Rattle.certificate.proofs.slots.read_slots.Goals as goal

pub loop-slot-init : goal.loop-slot-init
loop-slot-init c = (omega arith, filled_none _ _)

pub loop-slot-preserved : goal.loop-slot-preserved
loop-slot-preserved c = (omega arith, filled_next _ _ c.loop-slot.each c.loop-slot.slot _ c.loop-slot-test.true c.slot_or.ensures c.loop-slot.invariant.1)

pub returns : goal.returns
returns c =
    let a = c.args in
    slots_law a.s.now a.list _ _ _ _ c.first_extensions-found.ensures c.missing.ensures c.empty_slot-none.ensures
    (filled_all _ _ c.loop-slot.each c.loop-slot.slot c.loop-slot-test.false c.loop-slot.invariant.1)
