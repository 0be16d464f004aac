-- `der::octets_le` meets its contract. The invariant: the answer is that of the octets from the kth on. Assumes nothing.
use mathlib.Core.Path.{◌≡◌}
use Prim.Native.Nat.{◌+◌, ◌-◌}
use Rattle.der.specs.Order.{octets_le}
use Rattle.octets.specs.Octets.{octets_from}
use Rattle.der.proofs.order.octets_le.Given as goal

abbrev pub invariant-loop-k : goal.invariant-loop-k
invariant-loop-k l = octets_le (octets_from l.s l.a l.n) (octets_from l.s l.b l.m) ≡ octets_le (octets_from l.s (l.a + l.k) (l.n - l.k)) (octets_from l.s (l.b + l.k) (l.m - l.k))
