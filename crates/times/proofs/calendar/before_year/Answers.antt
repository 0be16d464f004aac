-- `times::calendar::before_year` meets its contract. Assumes nothing.
use native.Mathlib.Omega.{arith}
use Rattle.times.proofs.Laws.Calendar.{year_count}
use Rattle.times.proofs.calendar.before_year.Goals as goal

pub returns : goal.returns
returns c = (year_count c.args.year, omega arith)
