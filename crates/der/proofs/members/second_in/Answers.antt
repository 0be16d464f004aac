-- `der::second_in` meets its contract. Assumes nothing.
use Rattle.der.proofs.members.second_in.Goals as goal

pub returns : goal.returns
returns c = rw (← c.first_in.ensures) c.after.ensures
