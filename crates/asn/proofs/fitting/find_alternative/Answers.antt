use mathlib.Core.Path.{refl, sym, ◌∙◌}
use mathlib.Core.Bool.{true}
use lib.ListN.{get_or-eq_default}
use Rattle.asn.proofs.Laws.Steps.{taken_here, taken_later}
use Rattle.asn.proofs.fitting.find_alternative.Goals as goal

pub returns-then-takes_tag : goal.returns-then-takes_tag
returns-then-takes_tag c =
    sym (taken_here c.args.rows.now c.requires c.loop-m.m c.from-row.result c.from-row.ensures c.args.tag c.takes_tag.result
    c.takes_tag.ensures c.if-takes_tag.true)
    ∙ c.loop-m.invariant

pub loop-m-preserved : goal.loop-m-preserved
loop-m-preserved c =
    sym (taken_later c.args.rows.now c.requires c.loop-m.m c.from-row.result c.from-row.ensures c.args.tag c.takes_tag.result
    c.takes_tag.ensures c.if-takes_tag.false)
    ∙ c.loop-m.invariant

-- past the end of the rows there is a 0, which takes any tag
pub returns : goal.returns
returns c =
    sym (taken_here c.args.rows.now c.requires c.loop-m.m 0 (sym (get_or-eq_default c.args.rows.now 0 c.loop-m-test.false)) c.args.tag true refl refl)
    ∙ c.loop-m.invariant
