use mathlib.Core.Path.{refl, sym, ◌∙◌}
use native.Mathlib.Omega.{arith}
use Rattle.numbers.proofs.Laws.Small.{small_step, small_end}
use Rattle.numbers.proofs.counting.small.Goals as goal

pub loop-i-init : goal.loop-i-init
loop-i-init c = (refl, omega arith)

pub loop-i-preserved : goal.loop-i-preserved
loop-i-preserved c =
    let a = c.args in (
      c.loop-i.invariant.0 ∙ small_step a.s.now c.loop-i.n c.loop-i.i a.end c.octet.result c.push-n.result
          (omega arith) c.octet.ensures c.push-n.ensures.0,
      c.push-n.ensures.1,
    )

pub returns : goal.returns
returns c =
    let a = c.args in
    sym (c.loop-i.invariant.0 ∙ small_end a.s.now c.loop-i.n c.loop-i.i a.end (omega arith) c.loop-i.invariant.1)
