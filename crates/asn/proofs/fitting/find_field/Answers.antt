use mathlib.Core.Path.{refl, sym, ◌∙◌}
use lib.ListN.{get_or-eq_default}
use Rattle.asn.proofs.Laws.Steps.{no_field, field_found, field_later}
use Rattle.asn.proofs.fitting.find_field.Goals as goal

pub returns-then-row-kind : goal.returns-then-row-kind
returns-then-row-kind c =
    sym (field_found c.args.slots.now c.requires.fields c.loop-j.j c.from-field.result c.from-field.ensures c.if-kind-eq0.false
    c.args.tag c.find_alternative-row.result c.find_alternative-row.ensures c.if-row-kind.true c.row_after.result c.row_after.ensures)
    ∙ c.loop-j.invariant

pub loop-j-preserved : goal.loop-j-preserved
loop-j-preserved c =
    sym (field_later c.args.slots.now c.requires.fields c.loop-j.j c.from-field.result c.from-field.ensures c.if-kind-eq0.false
    c.args.tag c.find_alternative-row.result c.find_alternative-row.ensures c.if-row-kind.false)
    ∙ c.loop-j.invariant

pub returns-after-loop-j : goal.returns-after-loop-j
returns-after-loop-j c =
    sym (no_field c.args.slots.now c.requires.fields c.loop-j.j 0 (sym (get_or-eq_default c.args.slots.now 0 c.loop-j-test.false)) c.args.tag refl)
    ∙ c.loop-j.invariant

pub returns-then-kind-eq0 : goal.returns-then-kind-eq0
returns-then-kind-eq0 c =
    sym (no_field c.args.slots.now c.requires.fields c.loop-j.j c.from-field.result c.from-field.ensures c.args.tag c.if-kind-eq0.true)
    ∙ c.loop-j.invariant
