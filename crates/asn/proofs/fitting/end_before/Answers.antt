use mathlib.Core.Path.{refl, sym, ◌∙◌}
use native.Mathlib.Omega.{arith}
use lib.ListN.{get_or-eq_default}
use Rattle.asn.proofs.Laws.Steps.{nothing_lacks, one_lacks, lacks_next}
use Rattle.asn.proofs.fitting.end_before.Goals as goal

pub returns-in-0 : goal.returns-in-0
returns-in-0 c = sym (nothing_lacks c.args.slots.now c.requires c.loop-j.j _ refl c.args.outer c.in-0.is) ∙ c.loop-j.invariant

pub returns-in-1 : goal.returns-in-1
returns-in-1 c = sym (one_lacks c.args.slots.now c.requires c.loop-j.j _ refl c.args.outer c.in-1.is) ∙ c.loop-j.invariant

pub loop-j-preserved : goal.loop-j-preserved
loop-j-preserved c =
    sym (lacks_next c.args.slots.now c.requires c.loop-j.j _ refl (λ z. omega arith) c.args.outer (λ z. omega arith))
    ∙ c.loop-j.invariant

pub returns-after-loop-j : goal.returns-after-loop-j
returns-after-loop-j c =
    sym (nothing_lacks c.args.slots.now c.requires c.loop-j.j 0 (sym (get_or-eq_default c.args.slots.now 0 c.loop-j-test.false)) c.args.outer refl)
    ∙ c.loop-j.invariant
