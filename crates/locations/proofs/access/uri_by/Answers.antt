-- `locations::uri_by` meets its contract. Assumes nothing.
use Rattle.locations.proofs.access.uri_by.Goals as goal

pub returns : goal.returns
returns c = cc
