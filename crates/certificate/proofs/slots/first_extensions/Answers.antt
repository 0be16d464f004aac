use mathlib.Core.Path.{refl, ap, ◌∙◌}
use Prim.Native.Nat.{◌<◌}
use native.Mathlib.Omega.{arith}
use Rattle.certificate.specs.Slots.{slot_count}
use Rattle.der.specs.Children.{children_left}
use Rattle.certificate.proofs.Laws.Extensions.{slot_below}
use Rattle.certificate.proofs.Laws.Slots.{unread, seen_none, seen_next, seen_all}
use Rattle.certificate.proofs.slots.first_extensions.Goals as goal

pub loop-e-init : goal.loop-e-init
loop-e-init c = seen_none _ _ _ _ c.missing-none.ensures (ap children_left c.into_iter-e-iterator.ensures.into_iter_gives ∙ c.members_in-e-items.ensures.left)

pub offset_bounds-firsts-slot : goal.offset_bounds-firsts-slot
offset_bounds-firsts-slot c =
    let below : c.slot_of-slot.result < slot_count = rw c.slot_of-slot.ensures (slot_below _) in
    omega (arith, below)

pub bounds-firsts-slot : goal.bounds-firsts-slot
bounds-firsts-slot c =
    let below : c.slot_of-slot.result < slot_count = rw c.slot_of-slot.ensures (slot_below _) in
    below

pub offset_bounds-firsts-slot-in-loop-e : goal.offset_bounds-firsts-slot-in-loop-e
offset_bounds-firsts-slot-in-loop-e c =
    let below : c.slot_of-slot.result < slot_count = rw c.slot_of-slot.ensures (slot_below _) in
    omega (arith, below)

pub bounds-firsts-slot-in-loop-e : goal.bounds-firsts-slot-in-loop-e
bounds-firsts-slot-in-loop-e c =
    let below : c.slot_of-slot.result < slot_count = rw c.slot_of-slot.ensures (slot_below _) in
    below

pub loop-e-preserved : goal.loop-e-preserved
loop-e-preserved c =
    let loop = c.loop-e in
    seen_next _ _ _ _ _ loop.firsts loop.repeated loop.invariant _ _ _ unread _ _ c.in-Some.ensures.steps c.slot_of-slot.ensures
    refl c.or_else.ensures c.is_repeat-repeated.ensures

pub returns : goal.returns
returns c =
    let a = c.args in
    seen_all a.s.now a.list _ c.loop-e.firsts c.loop-e.repeated c.in-None.ensures.steps.0 c.loop-e.invariant
