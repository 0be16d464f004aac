-- `policies::other_qualifier` meets its contract. Assumes nothing.
use Rattle.policies.specs.Policies.{other_qualifier}
use Rattle.der.specs.Oids.{sevens, subidentifier, subidentifiers, oid}
use Rattle.policies.proofs.policies.other_qualifier.Goals as goal

pub returns : goal.returns
unfolding other_qualifier oid subidentifiers subidentifier sevens
returns c = rw c.first_is.ensures
