-- `listing::lines::total_line` meets its contract. Assumes nothing.
use Rattle.texts.specs.Texts.{word}
use Rattle.listing.specs.Lines.{total_line}
use Rattle.texts.proofs.Laws.Putting.{◌then◌}
use Rattle.listing.proofs.lines.total_line.Goals as goal

pub returns : goal.returns
unfolding total_line word
returns c = c.field.ensures then c.field-2.ensures then c.field-3.ensures then c.word.ensures
