-- `listing::lines::finding_line` meets its contract. Assumes nothing.
use Rattle.texts.specs.Texts.{word}
use Rattle.listing.specs.Lines.{finding_line}
use Rattle.texts.proofs.Laws.Putting.{◌then◌}
use Rattle.listing.proofs.lines.finding_line.Goals as goal

pub returns : goal.returns
unfolding finding_line word
returns c =
    rw (← c.read_entry-e.ensures)
    (c.field.ensures then c.field-2.ensures then c.field-3.ensures then c.level_word.ensures then c.word.ensures)
