-- `certificate::read_issuer` meets its contract. Assumes nothing.
use Rattle.certificate.proofs.Laws.Members.{issuer_law}
use Rattle.certificate.proofs.issuer.read_issuer.Goals as goal

pub returns : goal.returns
returns c =
    issuer_law c.args.i.now _ _ _ _ c.read-certificate.ensures c.first_in_slot-place.ensures c.slot_from-slot.ensures c.element_in.ensures
