-- `rules_key::algorithm::lacks_curve` meets its contract. Assumes nothing.
use Rattle.rules_key.proofs.algorithm.lacks_curve.Goals as goal

pub returns : goal.returns
returns c = rw (c.is_curve.ensures, c.is_elliptic_curve.ensures)
