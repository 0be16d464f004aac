-- `numbers::size::below` meets its contract. Assumes nothing.
use native.Mathlib.Omega.{arith}
use Rattle.numbers.proofs.Laws.Size.{below_short, below_even, below_long}
use Rattle.numbers.proofs.size.below.Goals as goal

pub returns-then-n-q : goal.returns-then-n-q
returns-then-n-q c =
    let a = c.args in
    below_short a.s.now a.body a.end c.lead-at.result a.k (λ i. (c.shared_slice_known-1.given i).fits) c.lead-at.ensures (omega arith)

pub returns-then-n-q-2 : goal.returns-then-n-q-2
returns-then-n-q-2 c =
    let a = c.args in
    rw c.power.ensures (below_even a.s.now a.body a.end c.lead-at.result a.k
    (λ i. (c.shared_slice_known-1.given i).fits) c.lead-at.ensures c.octet.result (omega arith)
    c.octet.ensures)

pub returns : goal.returns
returns c =
    let a = c.args in
    below_long a.s.now a.body a.end c.lead-at.result a.k (λ i. (c.shared_slice_known-1.given i).fits) c.lead-at.ensures (omega arith)
