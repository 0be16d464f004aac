-- `usages::other_usage` meets its contract. Assumes nothing.
use Rattle.usages.proofs.usage.other_usage.Goals as goal

pub returns : goal.returns
returns c = rw (← c.minus.ensures) c.other_bits.ensures
