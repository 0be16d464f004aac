-- `times::validity::early_general` meets its contract. Assumes nothing.
use Rattle.times.proofs.validity.early_general.Goals as goal

pub returns-in-General : goal.returns-in-General
returns-in-General c = cc
