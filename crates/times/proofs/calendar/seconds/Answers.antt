-- `times::calendar::seconds` meets its contract. Assumes nothing.
use native.Mathlib.Omega.{arith}
use Rattle.times.specs.Calendar.{days_of, seconds_of}
use Rattle.times.proofs.calendar.seconds.Goals as goal

pub returns : goal.returns
unfolding seconds_of days_of
returns c = (cc, omega arith)
