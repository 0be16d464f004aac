-- `der::ascending` meets its contract. The invariant: the answer is that of the elements that are left, after the one before them.
-- Assumes nothing.
use mathlib.Core.Path.{◌≡◌}
use mathlib.Core.List.{map}
use Rattle.der.specs.Header.{children_of}
use Rattle.der.specs.Children.{children_left}
use Rattle.der.specs.Order.{ascend_from, ascending, octets_of}
use Rattle.der.proofs.order.ascending.Given as goal

abbrev pub invariant-loop-member : goal.invariant-loop-member
invariant-loop-member l =
    ascending (map (octets_of l.s) (children_of l.s l.at l.end)) ≡ ascend_from (octets_of l.s l.before) (map (octets_of l.s) (children_left l.member-iterator))
