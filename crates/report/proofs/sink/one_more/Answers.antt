-- `report::one_more` meets its contract. Assumes nothing.
use Rattle.report.proofs.Laws.Putting.{tick_below, tick_cap}
use Rattle.report.proofs.sink.one_more.Goals as goal

pub returns-then-n-lt-CAP : goal.returns-then-n-lt-CAP
returns-then-n-lt-CAP c = tick_below _ c.if-n-lt-CAP.true

pub returns : goal.returns
returns c = tick_cap _ c.if-n-lt-CAP.false
