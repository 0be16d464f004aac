-- `times::anniversary::anniversary` meets its contract. Assumes nothing.
use Rattle.times.specs.Calendar.{days_of, seconds_of}
use Rattle.times.specs.Anniversary.{anniversary_of}
use Rattle.times.proofs.anniversary.anniversary.Goals as goal

pub returns : goal.returns
unfolding seconds_of days_of anniversary_of
returns c = cc
