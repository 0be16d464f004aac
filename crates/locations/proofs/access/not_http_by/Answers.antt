-- `locations::not_http_by` meets its contract. Assumes nothing.
use Rattle.locations.proofs.access.not_http_by.Goals as goal

pub returns : goal.returns
returns c = cc
