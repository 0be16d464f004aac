-- `octets::number` meets its contract. The invariant: the answer is the value so far, written on by the octets from the kth on.
-- Assumes nothing.
use mathlib.Core.Path.{◌≡◌}
use Prim.Native.Nat.{◌+◌, ◌-◌, ◌≤◌, min}
use Rattle.octets.specs.Octets.{octets_from}
use Rattle.octets.specs.Numbers.{number_from, number_of, largest}
use Rattle.octets.proofs.reading.number.Given as goal

abbrev pub invariant-loop-k : goal.invariant-loop-k
invariant-loop-k l = (l.value ≤ largest) × (min (number_of (octets_from l.s (l.at + l.skip) l.n)) largest ≡ min
    (number_from l.value (octets_from l.s (l.at + l.skip + l.k) (l.n - l.k))) largest)
