-- `numbers::size::has_bits` meets its contract. Assumes nothing.
use native.Mathlib.Omega.{arith}
use Rattle.numbers.specs.Numbers.{number}
use Rattle.numbers.proofs.Laws.Size.{bits_some, bits_none}
use Rattle.numbers.proofs.size.has_bits.Goals as goal

pub returns-then-k-gt0 : goal.returns-then-k-gt0
returns-then-k-gt0 c =
    let a = c.args in
    rw (c.below-then-k-gt0.ensures, c.below.ensures) (bits_some a.k (number a.s.now a.body a.end))

pub returns : goal.returns
returns c =
    let a = c.args in
    bits_none a.k (number a.s.now a.body a.end) (omega arith)
