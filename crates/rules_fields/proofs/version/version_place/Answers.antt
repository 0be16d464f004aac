-- `rules_fields::version::version_place` meets its contract. Assumes nothing.
use borrow.Author.Tests.{eq-eqb, ne_eqb}
use Rattle.rules_fields.proofs.version.version_place.Goals as goal

pub returns-then-version-eq160 : goal.returns-then-version-eq160
returns-then-version-eq160 c = rw (eq-eqb _ _ c.if-version-eq160.true)

pub returns : goal.returns
returns c = rw (ne_eqb _ _ c.if-version-eq160.false)
