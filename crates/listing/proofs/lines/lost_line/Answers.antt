-- `listing::lines::lost_line` meets its contract. Assumes nothing.
use Rattle.texts.specs.Texts.{word}
use Rattle.listing.specs.Lines.{lost_line}
use Rattle.texts.proofs.Laws.Putting.{◌then◌}
use Rattle.listing.proofs.lines.lost_line.Goals as goal

pub returns-in-Short : goal.returns-in-Short
unfolding lost_line word
returns-in-Short c = rw c.in-Short.is (c.field.ensures then c.word.ensures)

pub returns-in-Unsound : goal.returns-in-Unsound
unfolding lost_line word
returns-in-Unsound c = rw c.in-Unsound.is (c.field.ensures then c.word-in-Unsound.ensures)

pub returns-in-Stray : goal.returns-in-Stray
unfolding lost_line word
returns-in-Stray c = rw c.in-Stray.is (c.field.ensures then c.word-in-Stray.ensures)
