-- `certificate::key_of` meets its contract. Assumes nothing.
use Rattle.certificate.proofs.Laws.Members.{key_law}
use Rattle.certificate.proofs.key.key_of.Goals as goal

pub returns : goal.returns
returns c =
    let args = c.args in
    key_law args.s.now args.key _ _ _ _ _
    c.first_in-algorithm.ensures c.first_in-identifier.ensures c.after.ensures c.after-2.ensures c.kind_of.ensures
