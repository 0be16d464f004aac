-- `primes::dividing::none_divides` meets its contract. The invariant: the answer is that of the primes from the kth on, and r is the number modulo
-- the last product. Assumes nothing.
use mathlib.Core.Path.{◌≡◌}
use Prim.Native.Nat.{◌%◌}
use lib.ListN.{drop}
use Rattle.primes.specs.Primes.{free_of}
use Rattle.numbers.specs.Numbers.{number}
use Rattle.primes.proofs.dividing.none_divides.Given as goal

abbrev pub invariant-loop-k : goal.invariant-loop-k
invariant-loop-k l = (free_of l.primes (number l.s l.body l.end) ≡ free_of (drop l.k l.primes) (number l.s l.body l.end)) × (l.r ≡ number l.s l.body l.end % l.last)
