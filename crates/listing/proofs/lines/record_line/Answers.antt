-- `listing::lines::record_line` meets its contract. Assumes nothing.
use Rattle.texts.specs.Texts.{word}
use Rattle.listing.specs.Lines.{record_line}
use Rattle.texts.proofs.Laws.Putting.{◌then◌}
use Rattle.listing.proofs.lines.record_line.Goals as goal

pub returns : goal.returns
unfolding record_line word
returns c = c.field.ensures then (rw c.from.ensures at c.field-2.ensures) then c.outcome.ensures then c.word.ensures
