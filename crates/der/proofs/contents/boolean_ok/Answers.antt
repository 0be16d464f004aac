-- `der::contents::boolean_ok` meets its contract. Assumes nothing.
use Rattle.der.proofs.Laws.Contents.{boolean_law}
use Rattle.der.proofs.contents.boolean_ok.Goals as goal

pub returns : goal.returns
returns c =
    let a = c.args in
    boolean_law a.s.now a.body a.n c.octet-b.result c.octet-b.ensures
