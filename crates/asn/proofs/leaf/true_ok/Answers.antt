-- `asn::leaf::true_ok` meets its contract. Assumes nothing.
use lib.Dec.{eqb}
use Rattle.asn.proofs.Laws.Leaf.{one_octet_lem}
use Rattle.asn.proofs.leaf.true_ok.Goals as goal

pub returns : goal.returns
returns c = let a = c.args in one_octet_lem (λ b. eqb b 255) a.s.now a.body a.n c.octet.result c.octet.ensures
