-- `hosts::hosts::labels_ok` meets its contract. The invariant: the answer is that of the pass from the kth octet on, and the label so far is no
-- longer than the octets behind. Assumes nothing.
use mathlib.Core.Path.{◌≡◌}
use mathlib.Core.Bool.{◌&&◌}
use Prim.Native.Nat.{◌+◌, ◌-◌, ◌≤◌}
use lib.ListN.{length}
use lib.Dec.{leb}
use Rattle.hosts.specs.Hosts.{labels_of, labels_ok}
use Rattle.hosts.proofs.Laws.Hosts.{scanned}
use Rattle.octets.specs.Octets.{octets_from}
use Rattle.hosts.proofs.hosts.labels_ok.Given as goal

abbrev pub invariant-loop-k : goal.invariant-loop-k
invariant-loop-k l = (l.size ≤ l.k) × ((leb 2 (length (labels_of (octets_from l.s l.body l.n))) && labels_ok (labels_of (octets_from l.s l.body l.n))) ≡ scanned l.size l.last l.dotted
    (octets_from l.s (l.body + l.k) (l.n - l.k)))
