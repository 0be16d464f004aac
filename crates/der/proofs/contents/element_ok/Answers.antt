-- `der::element_ok` meets its contract. Assumes nothing.
use Rattle.der.proofs.Laws.Contents.{element_universal, element_other, element_broken}
use Rattle.der.proofs.contents.element_ok.Goals as goal

pub returns-then-tag-lt64 : goal.returns-then-tag-lt64
returns-then-tag-lt64 c =
    let a = c.args in
    element_universal a.s.now a.h c.universal_ok.result c.minus.result c.if-h.true c.if-tag-lt64.true
    c.minus.ensures c.universal_ok.ensures

pub returns-then-h : goal.returns-then-h
returns-then-h c =
    let a = c.args in
    element_other a.s.now a.h c.if-h.true c.if-tag-lt64.false

pub returns : goal.returns
returns c =
    let a = c.args in
    element_broken a.s.now a.h c.if-h.false
