-- `times::calendar::date_ok` meets its contract. Assumes nothing.
use Rattle.times.specs.Calendar.{date_ok}
use Rattle.times.proofs.calendar.date_ok.Goals as goal

pub returns : goal.returns
unfolding date_ok
returns c = cc
