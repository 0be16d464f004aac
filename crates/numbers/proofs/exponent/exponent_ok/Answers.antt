-- `numbers::exponent::exponent_ok` meets its contract. Assumes nothing.
use mathlib.Core.Bool.{◌&&◌}
use Rattle.numbers.proofs.exponent.exponent_ok.Goals as goal

pub returns : goal.returns
returns c = λ i. c.odd.ensures i && (c.at_least.ensures i && c.below_all_ones.ensures i)
