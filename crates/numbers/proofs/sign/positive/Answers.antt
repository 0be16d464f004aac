-- `numbers::sign::positive` meets its contract. Assumes nothing.
use Rattle.numbers.proofs.Laws.Sign.{positive_is}
use Rattle.numbers.proofs.sign.positive.Goals as goal

pub returns : goal.returns
returns c =
    let a = c.args in
    rw c.octet.ensures (positive_is a.s.now a.body a.end c.lead.result
    (λ i. (c.shared_slice_known-1.given i).fits) c.lead.ensures)
