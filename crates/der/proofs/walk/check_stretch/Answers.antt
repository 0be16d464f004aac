-- `der::check_stretch` meets its contract. Assumes nothing.
use mathlib.Core.Path.{sym, ◌∙◌}
use Rattle.der.proofs.Laws.Walks.{stretch_empty, stretch_torn, stretch_filled}
use Rattle.der.proofs.walk.check_stretch.Goals as goal

pub returns-then-h-end : goal.returns-then-h-end
returns-then-h-end c =
    let a = c.args in
    c.check_list.ensures ∙ sym (stretch_filled a.s.now a.at a.end c.head_any-h.result c.head_any-h.ensures
    c.if-at-end.true c.if-h-end.true)

pub returns-then-at-end : goal.returns-then-at-end
returns-then-at-end c =
    let a = c.args in
    sym (stretch_torn a.s.now a.at a.end c.head_any-h.result c.head_any-h.ensures c.if-h-end.false)

pub returns : goal.returns
returns c =
    let a = c.args in
    sym (stretch_empty a.s.now a.at a.end c.if-at-end.false)
