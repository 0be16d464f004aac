-- `subjects::is_other_authority` meets its contract. Assumes nothing.
use borrow.Author.Tests.{eq-eqb, ne_eqb}
use Rattle.subjects.specs.Authorities.{is_other_authority}
use Rattle.subjects.proofs.authorities.is_other_authority.Goals as goal

pub returns-then-arc_of-eq3 : goal.returns-then-arc_of-eq3
unfolding is_other_authority
returns-then-arc_of-eq3 c = rw (← c.arc_of.ensures, eq-eqb _ _ c.if-arc_of-eq3.true, ← c.attribute_value.ensures, ← c.says_authority.ensures)

pub returns : goal.returns
unfolding is_other_authority
returns c = rw (← c.arc_of.ensures, ne_eqb _ _ c.if-arc_of-eq3.false)
