-- `certificate::slots::is_repeat` meets its contract. Assumes nothing.
use borrow.Author.Tests.{eq-eqb, ne_eqb}
use Rattle.certificate.proofs.slots.is_repeat.Goals as goal

pub returns-then-is_none : goal.returns-then-is_none
returns-then-is_none c = rw (← c.is_none.ensures, c.if-is_none.true)

pub returns-then-slot-eq0 : goal.returns-then-slot-eq0
returns-then-slot-eq0 c = rw (← c.is_none.ensures, c.if-is_none.false, eq-eqb _ _ c.if-slot-eq0.true) c.seen_before.ensures

pub returns : goal.returns
returns c = rw (← c.is_none.ensures, c.if-is_none.false, ne_eqb _ _ c.if-slot-eq0.false)
