-- `subjects::values::is_other_country` meets its contract: the byte string is the word. Assumes nothing.
use Rattle.texts.specs.Texts.{word}
use Rattle.subjects.proofs.values.is_other_country.Goals as goal

pub returns : goal.returns
unfolding word
returns c = c.is_other.ensures
