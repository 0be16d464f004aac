-- `times::validity::is_since` meets its contract. Assumes nothing.
use mathlib.Core.Path.{ap₂}
use lib.Dec.{leb}
use Rattle.times.proofs.validity.is_since.Goals as goal

pub returns : goal.returns
returns c = ap₂ leb c.seconds.ensures.0 c.moment.ensures.0
