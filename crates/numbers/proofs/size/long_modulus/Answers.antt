-- `numbers::size::long_modulus` meets its contract. Assumes nothing.
use mathlib.Core.Path.{ap, ◌∙◌}
use mathlib.Core.Bool.{not}
use Prim.Native.Nat.{◌^◌}
use Rattle.numbers.specs.Numbers.{number}
use Rattle.numbers.proofs.Laws.Size.{not_below}
use Rattle.numbers.proofs.size.long_modulus.Goals as goal

pub returns : goal.returns
returns c =
    let a = c.args in
    ap not c.below.ensures ∙ not_below (number a.s.now a.body a.end) (2 ^ 2047)
