-- `times::validity::reversed` meets its contract. Assumes nothing.
use mathlib.Core.Path.{ap₂}
use lib.Dec.{ltb}
use Rattle.times.proofs.validity.reversed.Goals as goal

pub returns : goal.returns
returns c = ap₂ ltb c.moment.ensures.0 c.moment-2.ensures.0
