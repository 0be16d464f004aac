-- `asn::leaf::named_ok` meets its contract. Assumes nothing.
use Rattle.asn.proofs.Laws.Leaf.{named_law}
use Rattle.asn.proofs.leaf.named_ok.Goals as goal

pub returns : goal.returns
returns c =
    let a = c.args in
    named_law a.s.now a.body a.n c.octet-unused.result c.last_octet-last.result c.primitive_ok.result c.bit.result
    c.octet-unused.ensures c.last_octet-last.ensures (rw c.from.ensures at c.bit.ensures) c.primitive_ok.ensures
