-- `listing::lines::item_lines` meets its contract. Assumes nothing.
use Rattle.texts.proofs.Laws.Putting.{grown_nothing}
use Rattle.listing.proofs.lines.item_lines.Goals as goal

pub returns-in-Record : goal.returns-in-Record
returns-in-Record c = rw c.in-Record.is c.record_lines.ensures

pub returns-in-Lost : goal.returns-in-Lost
returns-in-Lost c = rw c.in-Lost.is c.lost_line.ensures

pub returns-in-End : goal.returns-in-End
returns-in-End c = rw c.in-End.is (grown_nothing _)
