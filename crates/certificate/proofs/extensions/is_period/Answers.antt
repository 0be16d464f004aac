-- `certificate::is_period` meets its contract. Assumes nothing.
use Rattle.der.specs.Oids.{sevens, subidentifier, subidentifiers, oid}
use Rattle.certificate.proofs.extensions.is_period.Goals as goal

pub returns : goal.returns
unfolding oid subidentifiers subidentifier sevens
returns c = c.first_is.ensures
