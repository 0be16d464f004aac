-- The proof of the cycle of calls {check_element, check_list}. `check_element` with depth d calls `check_list` with d - 1, and `check_list` calls
-- `check_element` with its own depth, so the measures are 2d and 2d + 1; in the list's loop the octets that are left fall. The loop's invariant:
-- the answer is what the members so far gave, and then that of the members from i on.
use Rattle.std.proofs.Common.{◌-◌, ◌≡◌, ◌+◌, ◌*◌}
use Rattle.octets.specs.Octets.{octets_from}
use Rattle.der.specs.Workings.Walk.{sound_list}
use Rattle.der.proofs.Laws.Walks.{list_from}
use Rattle.der.proofs.walk.+check_element_check_list.Given as goal

abbrev pub decreases-check_element : goal.decreases-check_element
decreases-check_element l = 2 * l.depth

abbrev pub decreases-check_list : goal.decreases-check_list
decreases-check_list l = 2 * l.depth + 1

abbrev pub invariant-check_list-loop-i : goal.invariant-check_list-loop-i
invariant-check_list-loop-i l =
    sound_list l.s l.depth l.at l.set l.body l.end
    ≡ list_from l.s l.depth l.at l.set l.body l.end l.ascends l.found (octets_from l.s l.from (l.i - l.from)) l.i

abbrev pub decreases-check_list-loop-i : goal.decreases-check_list-loop-i
decreases-check_list-loop-i l = l.end - l.i
