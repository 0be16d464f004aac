-- `times::validity::moment` meets its contract. Assumes nothing.
use mathlib.Core.Path.{ap, ◌∙◌}
use Rattle.times.specs.Calendar.{seconds_of}
use Rattle.times.specs.Validity.{moment_of}
use Rattle.times.proofs.validity.moment.Goals as goal

pub returns : goal.returns
unfolding moment_of
returns c = (c.seconds.ensures.0 ∙ ap seconds_of c.date_of.ensures, c.seconds.ensures.1)
