-- `listing::lines::outcome` meets its contract. Assumes nothing.
use Rattle.texts.specs.Texts.{word}
use Rattle.listing.proofs.lines.outcome.Goals as goal

pub returns-in-Ok : goal.returns-in-Ok
unfolding word
returns-in-Ok c = rw c.in-Ok.is c.field.ensures

pub returns-in-Err : goal.returns-in-Err
returns-in-Err c = rw c.in-Err.is c.refusal.ensures
