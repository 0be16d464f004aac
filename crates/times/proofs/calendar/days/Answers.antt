-- `times::calendar::days` meets its contract. Assumes nothing.
use native.Mathlib.Omega.{arith}
use Rattle.times.specs.Calendar.{days_of}
use Rattle.times.proofs.calendar.days.Goals as goal

pub returns : goal.returns
unfolding days_of
returns c = (cc, omega arith)
