use mathlib.Core.Path.{sym, ap, ◌∙◌}
use mathlib.Core.Bool.{Bool, ◌&&◌, ◌||◌}
use Prim.Native.Nat.{ℕ, ◌+◌, ◌-◌}
use native.Mathlib.Nat.{add-zero, sub-zero}
use native.Mathlib.Omega.{arith}
use lib.Dec.{eqb}
use Rattle.hosts.proofs.Laws.Hosts.{scanned, scan_labels, scan_done, scan_bad, scan_next, size_grows}
use Rattle.octets.specs.Octets.{octets_from}
use Rattle.hosts.proofs.hosts.labels_ok.Goals as goal

pub loop-k-init : goal.loop-k-init
loop-k-init c =
    let a = c.args in
    (omega arith, simp (add-zero, sub-zero) (scan_labels (octets_from a.s.now a.body a.n)))

pub returns-then-not-may_follow : goal.returns-then-not-may_follow
returns-then-not-may_follow c =
    let a = c.args in
    sym (c.loop-k.invariant.1 ∙ scan_bad a.s.now c.loop-k.size c.loop-k.last c.loop-k.dotted a.body a.n c.loop-k.k
    c.octet_past-b.result c.may_follow.result (omega arith) c.octet_past-b.ensures
    c.may_follow.ensures (c.if-not-may_follow.true))

pub size_after-size-requires : goal.size_after-size-requires
size_after-size-requires c = omega (arith, c.loop-k.invariant.0)

pub loop-k-preserved : goal.loop-k-preserved
loop-k-preserved c =
    let a = c.args in
    let b = c.octet_past-b.result in (
      size_grows c.loop-k.size b c.loop-k.k c.size_after-size.result c.size_after-size.ensures c.loop-k.invariant.0,
      c.loop-k.invariant.1 ∙
          (scan_next a.s.now c.loop-k.size c.loop-k.last c.loop-k.dotted a.body a.n c.loop-k.k b c.may_follow.result
          (omega arith) c.octet_past-b.ensures c.may_follow.ensures (c.if-not-may_follow.false) ∙ ap
          (λ (z : ℕ). scanned z b (c.loop-k.dotted || eqb b 46) (octets_from a.s.now (a.body + (c.loop-k.k + 1)) (a.n - (c.loop-k.k + 1))))
          (sym c.size_after-size.ensures)),
    )

pub returns : goal.returns
returns c =
    let a = c.args in
    ap (λ (b : Bool). c.loop-k.dotted && b) c.may_end.ensures ∙ sym
    (c.loop-k.invariant.1 ∙ scan_done a.s.now c.loop-k.size c.loop-k.last c.loop-k.dotted a.body a.n c.loop-k.k
    (omega arith))
