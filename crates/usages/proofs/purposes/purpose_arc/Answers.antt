-- `usages::purpose_arc` meets its contract. Assumes nothing.
use Rattle.der.specs.Oids.{sevens, subidentifier, subidentifiers, oid}
use Rattle.usages.proofs.purposes.purpose_arc.Goals as goal

pub returns : goal.returns
unfolding oid subidentifiers subidentifier sevens
returns c = c.arc_below.ensures
