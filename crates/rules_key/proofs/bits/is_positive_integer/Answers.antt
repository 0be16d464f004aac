-- `rules_key::bits::is_positive_integer` meets its contract. Assumes nothing.
use Rattle.rules_key.proofs.bits.is_positive_integer.Goals as goal

pub returns : goal.returns
returns c = rw c.positive.ensures
