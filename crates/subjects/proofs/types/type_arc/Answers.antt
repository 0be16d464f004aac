-- `subjects::types::type_arc` meets its contract. Assumes nothing.
use mathlib.Core.Path.{◌∙◌}
use mathlib.Core.Bool.{true, false}
use Rattle.subjects.proofs.Laws.Types.{arc_said}
use Rattle.subjects.proofs.types.type_arc.Goals as goal

pub returns-then-n-first : goal.returns-then-n-first
returns-then-n-first c =
    let a = c.args in
    c.octet_past.ensures ∙ arc_said a.s.now a.body a.n c.octet-first.result c.octet_past-second.result true c.octet-first.ensures
    c.octet_past-second.ensures c.if-n-first.true

pub returns : goal.returns
returns c =
    let a = c.args in
    arc_said a.s.now a.body a.n c.octet-first.result c.octet_past-second.result false c.octet-first.ensures c.octet_past-second.ensures c.if-n-first.false
