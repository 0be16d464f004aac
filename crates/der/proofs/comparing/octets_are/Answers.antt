-- `der::octets_are` meets its contract. Assumes nothing.
use Rattle.der.specs.Comparing.{octets_are}
use Rattle.der.proofs.comparing.octets_are.Goals as goal

pub returns : goal.returns
unfolding octets_are
returns c = rw (← c.minus.ensures) c.equals.ensures
