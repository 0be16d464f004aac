-- `times::calendar::month_length` meets its contract. Assumes nothing.
use native.Mathlib.Omega.{arith}
use borrow.Author.Tests.{eq-eqb, ne_eqb}
use Rattle.times.proofs.calendar.month_length.Goals as goal

pub returns-then-leap : goal.returns-then-leap
returns-then-leap c = (rw (eq-eqb _ 2 c.if-month-eq2.true, c.if-leap.true), omega arith)

pub returns-else-leap : goal.returns-else-leap
returns-else-leap c = (rw (eq-eqb _ 2 c.if-month-eq2.true, c.if-leap.false), omega arith)

pub returns-then-month : goal.returns-then-month
returns-then-month c = (rw (ne_eqb _ 2 c.if-month-eq2.false, c.if-month.true), omega arith)

pub returns-then-month-2 : goal.returns-then-month-2
returns-then-month-2 c = (rw (ne_eqb _ 2 c.if-month-eq2.false, c.if-month.false, c.if-month-2.true), omega arith)

pub returns-else-month-2 : goal.returns-else-month-2
returns-else-month-2 c = (rw (ne_eqb _ 2 c.if-month-eq2.false, c.if-month.false, c.if-month-2.false), omega arith)
