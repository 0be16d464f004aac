use Rattle.report.proofs.Laws.Forms.{each_none, each_next}
use Rattle.report.proofs.Laws.Sinks.{left_step, left_end}
use Rattle.forms.proofs.loops.each_among.Goals as goal

pub loop-item-preserved : goal.loop-item-preserved
loop-item-preserved c =
    left_step (rw (c.in-Some.ensures.steps, each_next _ _ _ _) at c.loop-item.invariant)
    (rw (← c.is_of_kind-bad.ensures) c.note.ensures)

pub returns : goal.returns
returns c = left_end (rw (c.in-None.ensures.steps.0, each_none _ _) at c.loop-item.invariant)
