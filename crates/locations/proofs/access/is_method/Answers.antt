-- `locations::access::is_method` meets its contract. Assumes nothing.
use Rattle.locations.proofs.access.is_method.Goals as goal

pub returns : goal.returns
returns c = cc
