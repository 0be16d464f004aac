-- `locations::is_other_uri` meets its contract. Assumes nothing.
use mathlib.Core.Bool.{not, ◌&&◌}
use Rattle.locations.proofs.uris.is_other_uri.Goals as goal

pub returns : goal.returns
returns c = λ i. c.is_uri.ensures i && not (c.is_http.ensures i)
