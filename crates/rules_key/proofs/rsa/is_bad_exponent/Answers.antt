-- `rules_key::rsa::is_bad_exponent` meets its contract. Assumes nothing.
use Rattle.rules_key.proofs.rsa.is_bad_exponent.Goals as goal

pub returns : goal.returns
returns c = rw c.exponent_ok.ensures
