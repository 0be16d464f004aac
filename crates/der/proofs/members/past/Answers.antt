-- `der::past` meets its contract. Assumes nothing.
use borrow.Author.Tests.{eq-eqb, ne_eqb}
use Rattle.der.specs.Members.{past}
use Rattle.der.proofs.members.past.Goals as goal

pub returns-then-h-tag : goal.returns-then-h-tag
unfolding past
returns-then-h-tag c = rw (eq-eqb _ _ c.if-h-tag.true) c.after.ensures

pub returns : goal.returns
unfolding past
returns c = rw (ne_eqb _ _ c.if-h-tag.false)
