-- `times::reading::if_real` meets its contract. Assumes nothing.
use Rattle.times.specs.Reads.{if_real}
use Rattle.times.proofs.reading.if_real.Goals as goal

pub returns : goal.returns
unfolding if_real
returns c = cc
