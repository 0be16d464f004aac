-- `lint::linting::lint` meets its contract. Assumes nothing.
use borrow.Author.Rules.{rules}
use Rattle.lint.specs.Answers.{answer_of, room_of}
use Rattle.lint.proofs.Laws.Values.{answered}
use Rattle.lint.proofs.linting.lint.Goals as goal

pub returns-in_err-p : goal.returns-in_err-p
unfolding answer_of room_of
returns-in_err-p c = answered (search rules) (search rules)

pub returns : goal.returns
unfolding answer_of room_of
returns c = answered (search rules) (search rules)
