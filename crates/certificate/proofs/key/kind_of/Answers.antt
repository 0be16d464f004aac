-- `certificate::key::kind_of` meets its contract. Assumes nothing.
use Rattle.certificate.specs.Key.{kind_of}
use Rattle.der.specs.Oids.{sevens, subidentifier, subidentifiers, oid}
use Rattle.certificate.proofs.key.kind_of.Goals as goal

pub returns-then-contents_are : goal.returns-then-contents_are
unfolding kind_of oid subidentifiers subidentifier sevens
returns-then-contents_are c = rw (← c.contents_are.ensures, c.if-contents_are.true)

pub returns-then-contents_are-2 : goal.returns-then-contents_are-2
unfolding kind_of oid subidentifiers subidentifier sevens
returns-then-contents_are-2 c = rw (← c.contents_are.ensures, c.if-contents_are.false, ← c.contents_are-2.ensures, c.if-contents_are-2.true)

pub returns : goal.returns
unfolding kind_of oid subidentifiers subidentifier sevens
returns c = rw (← c.contents_are.ensures, c.if-contents_are.false, ← c.contents_are-2.ensures, c.if-contents_are-2.false)
