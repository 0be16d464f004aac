-- `der::contents_are` meets its contract. Assumes nothing.
use Rattle.der.specs.Comparing.{contents_are}
use Rattle.der.proofs.comparing.contents_are.Goals as goal

pub returns : goal.returns
unfolding contents_are
returns c = rw (← c.minus.ensures) c.equals.ensures
