-- `rules_key::algorithm::lacks_null` meets its contract. Assumes nothing.
use Rattle.rules_key.proofs.algorithm.lacks_null.Goals as goal

pub returns : goal.returns
returns c = rw (c.is_null.ensures, c.is_rsa.ensures)
