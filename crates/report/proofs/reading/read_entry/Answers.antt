-- `report::read_entry` meets its contract. Assumes nothing.
use Rattle.report.proofs.Laws.Reading.{entry_past, entry_by}
use Rattle.report.proofs.reading.read_entry.Goals as goal

pub returns-then-report-k : goal.returns-then-report-k
returns-then-report-k c = let a = c.args in entry_past a.report.now a.k c.if-report-k.true

pub returns : goal.returns
returns c =
    let a = c.args in
    entry_by a.report.now a.k c.pair-3.ensures.0 c.pair.ensures.0 c.pair-2.ensures.0 c.pair-4.ensures.0
