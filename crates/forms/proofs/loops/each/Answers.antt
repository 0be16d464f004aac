-- `forms::loops::each` meets its contract: each item is at place 0 or behind it. Assumes nothing.
use Rattle.report.proofs.Laws.First.{each_all}
use Rattle.forms.proofs.loops.each.Goals as goal

pub returns : goal.returns
returns c = rw each_all c.each_behind.ensures
