-- `asn::leaf::natural_ok` meets its contract. Assumes nothing.
use Rattle.asn.proofs.Laws.Leaf.{natural_law}
use Rattle.asn.proofs.leaf.natural_ok.Goals as goal

pub returns : goal.returns
returns c =
    let a = c.args in
    natural_law a.s.now a.body a.n c.octet-first.result c.primitive_ok.result c.octet-first.ensures c.primitive_ok.ensures
