-- `rules_key::rsa::is_short_modulus` meets its contract. Assumes nothing.
use Rattle.rules_key.proofs.rsa.is_short_modulus.Goals as goal

pub returns : goal.returns
returns c = rw c.long_modulus.ensures
