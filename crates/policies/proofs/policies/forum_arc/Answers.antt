-- `policies::forum_arc` meets its contract. Assumes nothing.
use Rattle.der.specs.Oids.{sevens, subidentifier, subidentifiers, oid}
use Rattle.policies.proofs.policies.forum_arc.Goals as goal

pub returns : goal.returns
unfolding oid subidentifiers subidentifier sevens
returns c = rw (← c.first_in.ensures) c.arc_below.ensures
