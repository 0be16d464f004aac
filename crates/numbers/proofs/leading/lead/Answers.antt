use mathlib.Core.Path.{refl, sym, ◌∙◌}
use native.Mathlib.Omega.{arith}
use Rattle.numbers.proofs.Laws.Leading.{lead_none, lead_step, lead_stop}
use Rattle.numbers.proofs.leading.lead.Goals as goal

pub loop-i-init : goal.loop-i-init
loop-i-init c = refl

pub returns-then-octet-ne0 : goal.returns-then-octet-ne0
returns-then-octet-ne0 c =
    let a = c.args in
    sym (c.loop-i.invariant ∙ lead_stop a.s.now c.loop-i.i a.end c.octet.result (omega arith)
    c.octet.ensures c.if-octet-ne0.true)

pub loop-i-preserved : goal.loop-i-preserved
loop-i-preserved c =
    let a = c.args in
    c.loop-i.invariant ∙ lead_step a.s.now c.loop-i.i a.end c.octet.result (omega arith)
    c.octet.ensures c.if-octet-ne0.false

pub returns : goal.returns
returns c =
    let a = c.args in
    c.max.ensures ∙ lead_none a.s.now a.body a.end c.loop-i.i c.loop-i-test.false c.loop-i.auto.i-end c.loop-i.invariant
