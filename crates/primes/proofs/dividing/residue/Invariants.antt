-- `primes::dividing::residue` meets its contract. Assumes nothing.
use mathlib.Core.Path.{◌≡◌}
use Prim.Native.Nat.{◌-◌, ◌%◌}
use Rattle.octets.specs.Octets.{octets_from}
use Rattle.octets.specs.Numbers.{number_from}
use Rattle.numbers.specs.Numbers.{number}
use Rattle.primes.proofs.dividing.residue.Given as goal

abbrev pub invariant-loop-i : goal.invariant-loop-i
invariant-loop-i l = (number l.s l.body l.end % l.m ≡ number_from l.r (octets_from l.s l.i (l.end - l.i)) % l.m) × ((l.end - l.i) % 4 ≡ 0)

abbrev pub decreases-loop-i : goal.decreases-loop-i
decreases-loop-i l = l.end - l.i
