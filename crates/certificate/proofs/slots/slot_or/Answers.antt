-- `certificate::slots::slot_or` meets its contract. Assumes nothing.
use Rattle.certificate.proofs.slots.slot_or.Goals as goal

pub returns-then-is_none : goal.returns-then-is_none
returns-then-is_none c = rw (← c.is_none.ensures, c.if-is_none.true)

pub returns : goal.returns
returns c = rw (← c.is_none.ensures, c.if-is_none.false) c.slot_from.ensures
