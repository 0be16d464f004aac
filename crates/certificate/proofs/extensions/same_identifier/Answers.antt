-- `certificate::same_identifier` meets its contract. Assumes nothing.
use Rattle.certificate.proofs.extensions.same_identifier.Goals as goal

pub returns : goal.returns
returns c = rw (← c.first_in.ensures, ← c.first_in-2.ensures) c.same_contents.ensures
