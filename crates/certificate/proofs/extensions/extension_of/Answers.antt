-- `certificate::extension_of` meets its contract. Assumes nothing.
use Rattle.certificate.proofs.Laws.Members.{extension_law}
use Rattle.certificate.proofs.extensions.extension_of.Goals as goal

pub returns : goal.returns
returns c =
    let a = c.args in
    extension_law a.s.now a.h _ _ c.second_in-second.ensures c.past.ensures
