-- `rules_key::rsa::is_bad_modulus` meets its contract. Assumes nothing.
use Rattle.rules_key.proofs.rsa.is_bad_modulus.Goals as goal

pub returns : goal.returns
returns c = rw c.modulus_ok.ensures
