-- `asn::leaf::positive_ok` meets its contract. Assumes nothing.
use Rattle.asn.proofs.Laws.Leaf.{positive_law}
use Rattle.asn.proofs.leaf.positive_ok.Goals as goal

pub returns : goal.returns
returns c =
    let a = c.args in
    positive_law a.s.now a.body a.n c.octet-first.result c.natural_ok.result c.octet-first.ensures c.natural_ok.ensures
