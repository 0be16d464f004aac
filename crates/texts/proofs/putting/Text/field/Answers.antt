-- `texts::putting::Text::field` meets its contract. Assumes nothing.
use Rattle.texts.proofs.Laws.Putting.{◌then◌}
use Rattle.texts.proofs.putting.Text.field.Goals as goal

pub returns : goal.returns
returns c = c.word.ensures then c.decimal.ensures
