-- `listing::lines::finding_lines` meets its contract. The invariant: so far the lines of the first k entries are put. Assumes nothing.
use Rattle.texts.specs.Putting.{Grown}
use Rattle.listing.specs.Listing.{finding_lines}
use Rattle.report.specs.Entries.{decode}
use Rattle.listing.proofs.lines.finding_lines.Given as goal

abbrev pub invariant-loop-k : goal.invariant-loop-k
invariant-loop-k l = Grown (finding_lines (decode l.k l.report)) l.initial.text l.text
