-- `listing::lines::record_lines` meets its contract. Assumes nothing.
use Rattle.listing.proofs.Laws.Findings.{reported_lines, refused_lines}
use Rattle.listing.proofs.lines.record_lines.Goals as goal

pub returns-in-Ok : goal.returns-in-Ok
returns-in-Ok c = reported_lines _ _ c.in-Ok.is c.record_line.ensures c.finding_lines.ensures

pub returns-in-Err : goal.returns-in-Err
returns-in-Err c = refused_lines _ _ c.in-Err.is c.record_line.ensures
