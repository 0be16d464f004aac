-- `asn::leaf::universal_ok` meets its contract. Assumes nothing.
use borrow.Author.Tests.{lt-ltb, le-ltb}
use Rattle.asn.proofs.leaf.universal_ok.Goals as goal

pub returns-then-tag-lt64 : goal.returns-then-tag-lt64
returns-then-tag-lt64 c = rw (lt-ltb _ _ c.if-tag-lt64.true)

pub returns : goal.returns
returns c = rw (le-ltb _ _ c.if-tag-lt64.false) c.primitive_ok.ensures
