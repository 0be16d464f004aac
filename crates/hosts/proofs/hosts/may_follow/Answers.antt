-- `hosts::hosts::may_follow` meets its contract. Assumes nothing.
use borrow.Author.Tests.{eq-eqb, ne_eqb}
use Rattle.hosts.proofs.hosts.may_follow.Goals as goal

pub returns-then-b-eq46 : goal.returns-then-b-eq46
returns-then-b-eq46 c = rw (eq-eqb _ _ c.if-b-eq46.true) c.may_end.ensures

pub returns-else-b-eq46 : goal.returns-else-b-eq46
returns-else-b-eq46 c = rw (ne_eqb _ _ c.if-b-eq46.false) c.may_grow.ensures
