-- `locations::access::identifies` meets its contract. Assumes nothing.
use Rattle.der.specs.Oids.{sevens, subidentifier, subidentifiers, oid}
use Rattle.locations.proofs.access.identifies.Goals as goal

pub returns-in-Ocsp : goal.returns-in-Ocsp
unfolding oid subidentifiers subidentifier sevens
returns-in-Ocsp c = rw c.in-Ocsp.is c.contents_are.ensures

pub returns-in-CaIssuers : goal.returns-in-CaIssuers
unfolding oid subidentifiers subidentifier sevens
returns-in-CaIssuers c = rw c.in-CaIssuers.is c.contents_are-in-CaIssuers.ensures
