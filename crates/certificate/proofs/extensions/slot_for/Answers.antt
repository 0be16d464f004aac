-- `certificate::extensions::slot_for` meets its contract. Assumes nothing.
use mathlib.Core.Path.{refl, sym, ◌∙◌}
use mathlib.Core.Bool.{true, false, cond}
use Rattle.der.specs.Oids.{sevens, subidentifier, subidentifiers, oid}
use Rattle.certificate.proofs.Laws.Extensions.{slot_three, slot_other}
use Rattle.certificate.proofs.extensions.slot_for.Goals as goal

pub returns-then-a-b : goal.returns-then-a-b
returns-then-a-b c =
    let a = c.args in
    let three = slot_three a.s.now a.body a.n _ _ _ c.if-n-eq3.true c.octet-a.ensures
    c.octet_past-b.ensures c.octet_past.ensures in
    c.slot_by.ensures ∙ sym (rw c.if-a-b.true at three)

pub returns-then-n-eq3 : goal.returns-then-n-eq3
returns-then-n-eq3 c =
    let a = c.args in
    let three = slot_three a.s.now a.body a.n _ _ _ c.if-n-eq3.true c.octet-a.ensures
    c.octet_past-b.ensures refl in
    sym (rw c.if-a-b.false at three)

pub returns-then-equals : goal.returns-then-equals
unfolding oid subidentifiers subidentifier sevens
returns-then-equals c =
    let a = c.args in
    let other = slot_other a.s.now a.body a.n _ _ c.if-n-eq3.false c.equals.ensures refl in
    sym (rw c.if-equals.true at other)

-- the second of the longer identifiers is all that is left
pub returns-then-equals-2 : goal.returns-then-equals-2
unfolding oid subidentifiers subidentifier sevens
returns-then-equals-2 c =
    sym (slot_other _ _ _ _ _ c.if-n-eq3.false c.equals.ensures c.equals-2.ensures ∙
    (λ k. cond (c.if-equals.false k) 8 (cond (c.if-equals-2.true k) 10 0)))

pub returns : goal.returns
unfolding oid subidentifiers subidentifier sevens
returns c =
    sym (slot_other _ _ _ _ _ c.if-n-eq3.false c.equals.ensures c.equals-2.ensures ∙
    (λ k. cond (c.if-equals.false k) 8 (cond (c.if-equals-2.false k) 10 0)))
