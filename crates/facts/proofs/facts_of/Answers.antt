-- `facts::facts_of` meets its contract. Assumes nothing.
use Rattle.certificate.specs.Slots.{read_slots}
use Rattle.facts.specs.Case.{facts_of}
use Rattle.facts.proofs.facts_of.Goals as goal

pub returns : goal.returns
unfolding facts_of read_slots
returns c = rw (c.read_issuer-signer.ensures, c.read_slots-read.ensures, c.key_of-key.ensures, c.read-fields.ensures)
