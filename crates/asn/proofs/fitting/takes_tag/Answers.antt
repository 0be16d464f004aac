-- `asn::fitting::takes_tag` meets its contract. Assumes nothing.
use Rattle.asn.proofs.fitting.takes_tag.Goals as goal

pub returns : goal.returns
returns c = rw c.wide.ensures.0
