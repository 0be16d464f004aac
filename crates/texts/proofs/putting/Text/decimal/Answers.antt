-- `texts::putting::Text::decimal` meets its contract. Assumes nothing.
use Rattle.texts.proofs.Laws.Digits.{digits_put}
use Rattle.texts.proofs.putting.Text.decimal.Goals as goal

pub returns : goal.returns
returns c = digits_put _ c.digits-at.result c.digits-at.new.space c.digits-at.auto.space c.digits-at.ensures.0 c.word.ensures
