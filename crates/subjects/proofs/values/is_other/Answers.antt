-- `subjects::values::is_other` meets its contract. Assumes nothing.
use borrow.Author.Tests.{eq-eqb, ne_eqb}
use Rattle.subjects.specs.Texts.{is_other}
use Rattle.subjects.proofs.values.is_other.Goals as goal

pub returns-then-arc_of-arc : goal.returns-then-arc_of-arc
unfolding is_other
returns-then-arc_of-arc c = rw (← c.arc_of.ensures, eq-eqb _ _ c.if-arc_of-arc.true, ← c.says_text.ensures)

pub returns : goal.returns
unfolding is_other
returns c = rw (← c.arc_of.ensures, ne_eqb _ _ c.if-arc_of-arc.false)
