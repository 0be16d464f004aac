-- `numbers::counting::at_least` meets its contract. Assumes nothing.
use native.Mathlib.Omega.{arith}
use Rattle.numbers.specs.Numbers.{number}
use Rattle.numbers.proofs.Laws.Small.{least_is}
use Rattle.numbers.proofs.counting.at_least.Goals as goal

pub returns : goal.returns
returns c =
    let a = c.args in
    rw c.small.ensures (least_is a.k (number a.s.now a.body a.end) (omega arith))
