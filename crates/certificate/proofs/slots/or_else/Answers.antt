-- `certificate::slots::or_else` meets its contract. Assumes nothing.
use Rattle.certificate.proofs.slots.or_else.Goals as goal

pub returns-then-is_none : goal.returns-then-is_none
returns-then-is_none c = rw (← c.is_none.ensures, c.if-is_none.true)

pub returns : goal.returns
returns c = rw (← c.is_none.ensures, c.if-is_none.false)
