-- `der::first_is` meets its contract. Assumes nothing.
use Rattle.der.proofs.comparing.first_is.Goals as goal

pub returns : goal.returns
returns c = rw (← c.first_in.ensures) c.contents_are.ensures
