-- `forms::judged::judge_one` meets its contract. Assumes nothing.
use mathlib.Core.Path.{sym, ◌∙◌}
use Rattle.report.proofs.Laws.Rows.{one_is}
use Rattle.report.proofs.Laws.Sinks.{sink_judged, sink_unjudged}
use Rattle.forms.proofs.judged.judge_one.Goals as goal

pub returns-then-holds : goal.returns-then-holds
returns-then-holds c = sink_judged _ _ _ (sym c.holds.ensures ∙ c.if-holds.true) (rw one_is at c.one.ensures)

pub returns-else-holds : goal.returns-else-holds
returns-else-holds c = sink_unjudged _ _ _ _ (sym c.holds.ensures ∙ c.if-holds.false)
