-- `der::inside_tag` meets its contract. Assumes nothing.
use borrow.Author.Tests.{eq-eqb, ne_eqb}
use Rattle.der.specs.Members.{inside_tag}
use Rattle.der.proofs.members.inside_tag.Goals as goal

pub returns-then-h-tag : goal.returns-then-h-tag
unfolding inside_tag
returns-then-h-tag c = rw (eq-eqb _ _ c.if-h-tag.true) c.first_in.ensures

pub returns : goal.returns
unfolding inside_tag
returns c = rw (ne_eqb _ _ c.if-h-tag.false) c.missing.ensures
