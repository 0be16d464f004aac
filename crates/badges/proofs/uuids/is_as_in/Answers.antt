-- `badges::uuids::is_as_in` meets its contract. Assumes nothing.
use borrow.Author.Tests.{eq-eqb, ne_eqb}
use Rattle.badges.proofs.uuids.is_as_in.Goals as goal

pub returns-then-f-eq120 : goal.returns-then-f-eq120
returns-then-f-eq120 c = rw (eq-eqb _ _ c.if-f-eq120.true) c.is_hex_digit.ensures

pub returns : goal.returns
returns c = rw (ne_eqb _ _ c.if-f-eq120.false, c.lower_case.ensures)
