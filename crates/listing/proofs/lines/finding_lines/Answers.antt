use Rattle.listing.proofs.Laws.Findings.{no_findings, one_finding}
use Rattle.listing.proofs.lines.finding_lines.Goals as goal

pub loop-k-init : goal.loop-k-init
loop-k-init c = no_findings _ _

pub loop-k-preserved : goal.loop-k-preserved
loop-k-preserved c = one_finding _ _ c.loop-k.invariant c.finding_line.ensures
