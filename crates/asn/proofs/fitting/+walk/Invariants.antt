-- The measure of `walk` is the length of the contents that it walks: it calls itself on the contents of one of their elements, which start
-- later. The loop's invariant says that what is left to judge has the answer of the whole.
use Rattle.std.proofs.Common.{◌-◌, ◌≡◌, ◌≤◌}
use Rattle.asn.specs.Grammar.{follows}
use Rattle.asn.specs.Workings.Table.{slots_at}
use Rattle.der.specs.Header.{children_of}
use Rattle.asn.proofs.fitting.+walk.Given as goal

abbrev pub decreases-walk : goal.decreases-walk
decreases-walk l = l.end - l.from

abbrev pub invariant-loop-at : goal.invariant-loop-at
invariant-loop-at l =
    (l.from ≤ l.at) × (follows (slots_at l.j) l.s l.outer (children_of l.s l.at l.end) ≡ follows (slots_at l.k) l.s l.outer (children_of l.s l.from l.end))

abbrev pub decreases-loop-at : goal.decreases-loop-at
decreases-loop-at l = l.end - l.at
