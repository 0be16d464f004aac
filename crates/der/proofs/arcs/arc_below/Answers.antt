-- `der::arc_below` meets its contract. Assumes nothing.
use mathlib.Core.Path.{◌∙◌}
use Rattle.der.proofs.Laws.Arcs.{arc_none, arc_read}
use Rattle.der.proofs.arcs.arc_below.Goals as goal

pub returns-then-minus-ne1 : goal.returns-then-minus-ne1
returns-then-minus-ne1 c =
    let a = c.args in
    arc_none a.prefix.now a.s.now a.h.body _ _ _ c.minus.ensures c.minus-2.ensures c.if-minus-ne1.true

pub returns-then-equals : goal.returns-then-equals
returns-then-equals c =
    let a = c.args in
    c.octet_past.ensures ∙ rw c.if-equals.true at (arc_read a.prefix.now a.s.now a.h.body _ _ _ c.minus.ensures
    c.minus-2.ensures _ c.if-minus-ne1.false c.equals.ensures)

pub returns : goal.returns
returns c =
    let a = c.args in
    rw c.if-equals.false at (arc_read a.prefix.now a.s.now a.h.body _ _ _ c.minus.ensures
    c.minus-2.ensures _ c.if-minus-ne1.false c.equals.ensures)
