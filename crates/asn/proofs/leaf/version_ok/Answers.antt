-- `asn::leaf::version_ok` meets its contract. Assumes nothing.
use mathlib.Core.Bool.{◌||◌}
use lib.Dec.{eqb}
use Rattle.asn.proofs.Laws.Leaf.{one_octet_lem}
use Rattle.asn.proofs.leaf.version_ok.Goals as goal

pub returns : goal.returns
returns c = let a = c.args in one_octet_lem (λ b. eqb b 1 || eqb b 2) a.s.now a.body a.n c.octet-b.result c.octet-b.ensures
