-- `certificate::slots::slot_from` meets its contract. Assumes nothing.
use Rattle.certificate.proofs.Laws.Members.{slot_law}
use Rattle.certificate.proofs.slots.slot_from.Goals as goal

pub returns : goal.returns
returns c =
    let a = c.args in
    slot_law a.s.now a.slot a.h _ _ _ c.extension_of-extension.ensures c.first_in.ensures c.is_good.ensures
