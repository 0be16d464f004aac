-- `hosts::hosts::size_after` meets its contract. Assumes nothing.
use borrow.Author.Tests.{eq-eqb, ne_eqb}
use Rattle.hosts.proofs.hosts.size_after.Goals as goal

pub returns-then-b-eq46 : goal.returns-then-b-eq46
returns-then-b-eq46 c = simp (eq-eqb _ _ c.if-b-eq46.true)

pub returns-else-b-eq46 : goal.returns-else-b-eq46
returns-else-b-eq46 c = simp (ne_eqb _ _ c.if-b-eq46.false)
