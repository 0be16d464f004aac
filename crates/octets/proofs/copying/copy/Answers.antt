-- `octets::copying::copy` meets its contract: the test is the definition's. Assumes nothing.
use mathlib.Core.Path.{sym, ◌∙◌}
use Rattle.octets.proofs.Laws.Copying.{copied_paste, copied_inside, copied_else}
use Rattle.octets.proofs.copying.copy.Goals as goal

pub copy_inside-requires : goal.copy_inside-requires
copy_inside-requires c = let a = c.args in
    copied_inside a.s.now a.from a.n a.out.now a.at c.within.result c.within-2.result
    c.within.ensures c.within-2.ensures c.if-within.true

pub returns-then-within : goal.returns-then-within
returns-then-within c = let a = c.args in
    let inside = copied_inside a.s.now a.from a.n a.out.now a.at c.within.result c.within-2.result
    c.within.ensures c.within-2.ensures c.if-within.true in
    c.copy_inside.ensures ∙ sym (copied_paste a.s.now a.from a.n a.out.now a.at inside.0 inside.1)

pub returns-else-within : goal.returns-else-within
returns-else-within c = let a = c.args in
    sym (copied_else a.s.now a.from a.n a.out.now a.at c.within.result c.within-2.result
    c.within.ensures c.within-2.ensures c.if-within.false)
