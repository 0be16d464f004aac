-- `hosts::some_same` meets its contract. The invariants: the answer is that of the names that are left; and, within a name, that of the octets from
-- the kth on, or else of the names after it. Assumes nothing.
use mathlib.Core.Path.{◌≡◌}
use mathlib.Core.Bool.{false, ◌||◌}
use Prim.Native.Nat.{◌+◌, ◌-◌, ◌≤◌}
use Rattle.hosts.specs.Names.{some_named}
use Rattle.octets.specs.Octets.{octets_from}
use Rattle.octets.specs.Same.{same_by, lower_case}
use Rattle.der.specs.Header.{children_of}
use Rattle.der.specs.Children.{children_left}
use Rattle.hosts.proofs.named.some_same.Given as goal

abbrev pub invariant-loop-k : goal.invariant-loop-k
invariant-loop-k l = (l.found ≡ false) × (l.k ≤ l.n) × (some_named l.s (octets_from l.s l.a l.n) (children_of l.s l.at l.end) ≡
    (same_by lower_case (octets_from l.s (l.a + l.k) (l.n - l.k)) (octets_from l.s (l.body + l.k) (l.n - l.k)) || some_named l.s (octets_from l.s l.a l.n)
    (children_left l.name-iterator)))

abbrev pub decreases-loop-k : goal.decreases-loop-k
decreases-loop-k l = l.n - l.k

abbrev pub invariant-names : goal.invariant-names
invariant-names l = (l.found ≡ false) × (some_named l.s (octets_from l.s l.a l.n) (children_of l.s l.at l.end) ≡ some_named l.s (octets_from l.s l.a l.n) (children_left l.name-iterator))
