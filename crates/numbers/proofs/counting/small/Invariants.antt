-- `numbers::counting::small` meets its contract. Assumes nothing.
use mathlib.Core.Path.{◌≡◌}
use Prim.Native.Nat.{◌-◌, ◌^◌, ◌≤◌, min}
use Rattle.numbers.specs.Numbers.{number}
use Rattle.octets.specs.Numbers.{number_from}
use Rattle.octets.specs.Octets.{octets_from}
use Rattle.numbers.proofs.counting.small.Given as goal

abbrev pub invariant-loop-i : goal.invariant-loop-i
invariant-loop-i l = (min (number l.s l.body l.end) (2 ^ 32) ≡ min (number_from l.n (octets_from l.s l.i (l.end - l.i))) (2 ^ 32)) × (l.n ≤ 2 ^ 32)
