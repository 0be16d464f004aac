-- `report::Sink::note` meets its contract. Assumes nothing.
use Rattle.report.proofs.Laws.Sinks.{sink_noted, sink_not}
use Rattle.report.proofs.sink.Sink.note.Goals as goal

pub returns-then-bad : goal.returns-then-bad
returns-then-bad c =
    let a = c.args in
    sink_noted a.rule a.bad a.h c.if-bad.true c.entry_at.ensures c.put.ensures

pub returns-else-bad : goal.returns-else-bad
returns-else-bad c = let a = c.args in sink_not a.rule a.bad a.h a.self.now c.if-bad.false
