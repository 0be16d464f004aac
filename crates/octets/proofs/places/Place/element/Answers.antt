-- `octets::Place::element` meets its contract. Assumes nothing.
use Rattle.octets.proofs.places.Place.element.Goals as goal

pub returns : goal.returns
returns c = rw c.minus.ensures
