-- `listing::lines::level_word` meets its contract: an arm a level. Assumes nothing.
use borrow.Author.Tests.{ne_eqb}
use Rattle.texts.specs.Texts.{word}
use Rattle.texts.proofs.Laws.Putting.{grown_nothing}
use Rattle.listing.proofs.lines.level_word.Goals as goal

pub returns-in-1 : goal.returns-in-1
unfolding word
returns-in-1 c = rw c.in-1.is c.word.ensures

pub returns-in-2 : goal.returns-in-2
unfolding word
returns-in-2 c = rw c.in-2.is c.word-in-2.ensures

pub returns-in_default : goal.returns-in_default
returns-in_default c = rw (ne_eqb _ 1 c.in_default.in_default-own.rest.0.1, ne_eqb _ 2 c.in_default.in_default-own.rest.1) (grown_nothing _)
