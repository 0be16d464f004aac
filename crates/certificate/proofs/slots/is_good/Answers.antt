-- `certificate::slots::is_good` meets its contract. Assumes nothing.
use mathlib.Core.Path.{◌∙◌}
use Rattle.certificate.proofs.Laws.Members.{good_none, good_some}
use Rattle.certificate.proofs.slots.is_good.Goals as goal

pub returns-then-slot-is_none : goal.returns-then-slot-is_none
returns-then-slot-is_none c =
    let a = c.args in
    good_none a.s.now a.slot a.h a.holder _ c.is_none.ensures c.if-slot-is_none.true

pub returns : goal.returns
returns c =
    let a = c.args in
    c.value_ok.ensures ∙ good_some a.s.now a.slot a.h a.holder _ c.is_none.ensures c.if-slot-is_none.false
