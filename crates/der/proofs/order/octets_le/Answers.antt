use mathlib.Core.Path.{sym, ◌∙◌}
use native.Mathlib.Nat.{add-zero, sub-zero}
use native.Mathlib.Omega.{arith}
use Rattle.der.proofs.Laws.Order.{le_done, le_short, le_below, le_above, le_same}
use Rattle.der.proofs.order.octets_le.Goals as goal

pub loop-k-init : goal.loop-k-init
loop-k-init c = simp (add-zero, sub-zero)

pub returns-then-m-k : goal.returns-then-m-k
returns-then-m-k c =
    let x = c.args in
    sym (c.loop-k.invariant ∙ le_short x.s.now x.a x.n x.b x.m c.loop-k.k (omega arith) c.if-m-k.true)

pub returns-then-x-y : goal.returns-then-x-y
returns-then-x-y c =
    let x = c.args in
    sym (c.loop-k.invariant ∙ le_below x.s.now x.a x.n x.b x.m c.loop-k.k c.octet_past-x.result
    c.octet_past-y.result (omega arith) c.if-m-k.false c.octet_past-x.ensures
    c.octet_past-y.ensures c.if-x-y.true)

pub returns-then-y-x : goal.returns-then-y-x
returns-then-y-x c =
    let x = c.args in
    sym (c.loop-k.invariant ∙ le_above x.s.now x.a x.n x.b x.m c.loop-k.k c.octet_past-x.result
    c.octet_past-y.result (omega arith) c.if-m-k.false c.octet_past-x.ensures
    c.octet_past-y.ensures c.if-y-x.true)

pub loop-k-preserved : goal.loop-k-preserved
loop-k-preserved c =
    let x = c.args in
    c.loop-k.invariant ∙ le_same x.s.now x.a x.n x.b x.m c.loop-k.k c.octet_past-x.result c.octet_past-y.result
    (omega arith) c.if-m-k.false c.octet_past-x.ensures c.octet_past-y.ensures
    c.if-x-y.false c.if-y-x.false

pub returns : goal.returns
returns c =
    let x = c.args in
    sym (c.loop-k.invariant ∙ le_done x.s.now x.a x.n x.b x.m c.loop-k.k (omega arith))
