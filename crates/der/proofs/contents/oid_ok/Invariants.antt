-- `der::contents::oid_ok` meets its contract. The invariant: the answer is that of the octets from the kth on. Assumes nothing.
use mathlib.Core.Path.{◌≡◌}
use Prim.Native.Nat.{◌+◌, ◌-◌}
use Rattle.der.specs.Contents.{oid_ok, arcs_ok}
use Rattle.octets.specs.Octets.{octets_from}
use Rattle.der.proofs.contents.oid_ok.Given as goal

abbrev pub invariant-loop-k : goal.invariant-loop-k
invariant-loop-k l = oid_ok (octets_from l.s l.body l.n) ≡ arcs_ok l.fresh (octets_from l.s (l.body + l.k) (l.n - l.k))
