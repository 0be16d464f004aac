use mathlib.Core.Path.{sym, ◌∙◌}
use native.Mathlib.Omega.{arith}
use Rattle.der.proofs.Laws.Contents.{oid_none, oid_some, arcs_bad, arcs_good, arcs_done}
use Rattle.der.proofs.contents.oid_ok.Goals as goal

pub returns-then-n-eq0 : goal.returns-then-n-eq0
returns-then-n-eq0 c = let a = c.args in sym (oid_none a.s.now a.body a.n c.if-n-eq0.true)

pub loop-k-init : goal.loop-k-init
loop-k-init c = let a = c.args in oid_some a.s.now a.body a.n c.if-n-eq0.false

pub returns-then-bad : goal.returns-then-bad
returns-then-bad c =
    let a = c.args in
    sym (c.loop-k.invariant ∙ arcs_bad a.s.now a.body a.n c.loop-k.k c.loop-k.fresh c.octet_past-b.result
    (omega arith) c.octet_past-b.ensures c.if-bad.true)

pub loop-k-preserved : goal.loop-k-preserved
loop-k-preserved c =
    let a = c.args in
    c.loop-k.invariant ∙ arcs_good a.s.now a.body a.n c.loop-k.k c.loop-k.fresh c.octet_past-b.result
    (omega arith) c.octet_past-b.ensures c.if-bad.false

pub returns : goal.returns
returns c =
    let a = c.args in
    sym (c.loop-k.invariant ∙ arcs_done a.s.now a.body a.n c.loop-k.k c.loop-k.fresh (omega arith))
