-- `numbers::size::modulus_ok` meets its contract. Assumes nothing.
use mathlib.Core.Bool.{◌||◌}
use Rattle.numbers.proofs.size.modulus_ok.Goals as goal

pub returns : goal.returns
returns c = λ i. c.has_bits.ensures i || (c.has_bits-2.ensures i || c.has_bits-3.ensures i)
