-- `der::contents::integer_ok` meets its contract. Assumes nothing.
use Rattle.der.proofs.Laws.Contents.{integer_law}
use Rattle.der.proofs.contents.integer_ok.Goals as goal

pub returns : goal.returns
returns c =
    let a = c.args in
    integer_law a.s.now a.body a.n c.octet-a.result c.octet_past-b.result c.octet-a.ensures c.octet_past-b.ensures
