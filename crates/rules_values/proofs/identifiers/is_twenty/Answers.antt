-- `rules_values::identifiers::is_twenty` meets its contract. Assumes nothing.
use Rattle.rules_values.proofs.identifiers.is_twenty.Goals as goal

pub returns : goal.returns
returns c = rw c.minus.ensures
