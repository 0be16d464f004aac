-- `der::header::head_if` meets its contract. Assumes nothing.
use mathlib.Core.Path.{◌∙◌}
use Rattle.der.proofs.Laws.Header.{head_whole, head_broken}
use Rattle.der.proofs.header.head_if.Goals as goal

pub returns-then-good-tag_ok : goal.returns-then-good-tag_ok
returns-then-good-tag_ok c =
    let a = c.args in
    head_whole a.good a.at a.end a.tag a.skip a.len c.tag_ok.result c.fits-inside.result
    c.tag_ok.ensures c.fits-inside.ensures c.if-good-tag_ok.true

pub returns : goal.returns
returns c =
    let a = c.args in
    c.broken_head.ensures ∙ head_broken a.good a.at a.end a.tag a.skip a.len c.tag_ok.result
    c.fits-inside.result c.tag_ok.ensures c.fits-inside.ensures c.if-good-tag_ok.false
