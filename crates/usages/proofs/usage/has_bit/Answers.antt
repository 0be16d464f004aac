-- `usages::usage::has_bit` meets its contract. Assumes nothing.
use Rattle.usages.proofs.Laws.Usage.{first_bit}
use Rattle.usages.proofs.usage.has_bit.Goals as goal

pub returns : goal.returns
returns c =
    let a = c.args in
    rw (c.bit.ensures, c.from.ensures, ← c.minus-n.ensures)
    (first_bit a.number c.requires a.s.now a.v.body c.minus-n.result c.octet_past-bits.result c.octet_past-bits.ensures)
