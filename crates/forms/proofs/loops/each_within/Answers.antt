use Rattle.forms.specs.Lists.{members_of_each, items_within}
use Rattle.report.proofs.Laws.Forms.{each_none, each_join}
use Rattle.report.proofs.Laws.Sinks.{left_step, left_end}
use Rattle.forms.proofs.loops.each_within.Goals as goal

pub loop-h-preserved : goal.loop-h-preserved
unfolding members_of_each
loop-h-preserved c =
    left_step (rw (c.in-Some.ensures.steps, each_join _ _ _ _) at c.loop-h.invariant)
    (rw (← c.holder_in-holder.ensures) c.each_among.ensures)

pub returns : goal.returns
unfolding members_of_each items_within
returns c = left_end (rw (c.in-None.ensures.steps.0, each_none _ _) at c.loop-h.invariant)
