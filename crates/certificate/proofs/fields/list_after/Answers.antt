-- `certificate::fields::list_after` meets its contract. Assumes nothing.
use Rattle.certificate.proofs.Laws.Members.{list_law}
use Rattle.certificate.proofs.fields.list_after.Goals as goal

pub returns : goal.returns
returns c =
    let a = c.args in
    list_law a.s.now a.key _ _ _ _ a.end c.after-issuer_id.ensures c.past-subject_id.ensures c.past-extended.ensures c.inside_tag.ensures
