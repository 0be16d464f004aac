-- `numbers::exponent::below_all_ones` meets its contract. Assumes nothing.
use native.Mathlib.Omega.{arith}
use Rattle.numbers.proofs.Laws.Exponent.{max_short, max_even, max_long}
use Rattle.numbers.proofs.exponent.below_all_ones.Goals as goal

pub returns-then-n-lt32 : goal.returns-then-n-lt32
returns-then-n-lt32 c =
    let a = c.args in
    max_short a.s.now a.body a.end c.lead-at.result (λ i. (c.shared_slice_known-1.given i).fits) c.lead-at.ensures 32 (omega arith)

pub returns-then-n-eq32 : goal.returns-then-n-eq32
returns-then-n-eq32 c =
    let a = c.args in
    max_even a.s.now a.body a.end c.lead-at.result (λ i. (c.shared_slice_known-1.given i).fits) c.lead-at.ensures 32
    c.all_ones.result (omega arith) c.all_ones.ensures

pub returns : goal.returns
returns c =
    let a = c.args in
    max_long a.s.now a.body a.end c.lead-at.result (λ i. (c.shared_slice_known-1.given i).fits) c.lead-at.ensures 32 (omega arith)
