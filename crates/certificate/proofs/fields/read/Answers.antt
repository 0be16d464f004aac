-- `certificate::read` meets its contract. Assumes nothing.
use Rattle.certificate.proofs.Laws.Fields.{read_law}
use Rattle.certificate.proofs.fields.read.Goals as goal

pub returns : goal.returns
returns c =
    read_law c.args.s.now _ _ _ _ _ _ _ _ _ _ _ _ _ _ c.head_any-whole.ensures c.head_any-tbs.ensures
    c.first_in-version.ensures c.past-serial.ensures c.after-inner.ensures c.after-issuer.ensures c.after-period.ensures c.first_in-not_before.ensures
    c.after-not_after.ensures c.after-subject.ensures c.after-key.ensures c.list_after.ensures c.after.ensures c.validity_of.ensures
