-- `rules_key::algorithm::allows_kind` meets its contract. Assumes nothing.
use Rattle.rules_key.proofs.algorithm.allows_kind.Goals as goal

pub returns : goal.returns
returns c = cc
