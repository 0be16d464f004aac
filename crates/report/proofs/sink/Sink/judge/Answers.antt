-- `report::Sink::judge` meets its contract. Assumes nothing.
use Rattle.report.proofs.Laws.Sinks.{sink_at}
use Rattle.report.proofs.sink.Sink.judge.Goals as goal

pub returns : goal.returns
returns c =
    let a = c.args in
    sink_at a.rule a.bad a.h a.p (rw (← c.holds-judged.ensures) c.note.ensures)
