-- `asn::fitting::row_after` meets its contract. Assumes nothing.
use borrow.Author.Tests.{lt-ltb, le-ltb}
use Rattle.asn.proofs.fitting.row_after.Goals as goal

pub returns-then-kind-lt3 : goal.returns-then-kind-lt3
returns-then-kind-lt3 c = rw (lt-ltb _ _ c.if-kind-lt3.true)

pub returns-else-kind-lt3 : goal.returns-else-kind-lt3
returns-else-kind-lt3 c = rw (le-ltb _ _ c.if-kind-lt3.false)
