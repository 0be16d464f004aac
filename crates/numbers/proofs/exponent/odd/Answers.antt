-- `numbers::exponent::odd` meets its contract. Assumes nothing.
use Rattle.numbers.proofs.Laws.Exponent.{odd_is, odd_none}
use Rattle.numbers.proofs.exponent.odd.Goals as goal

pub returns-then-body-end : goal.returns-then-body-end
returns-then-body-end c =
    let a = c.args in
    odd_is a.s.now a.body a.end c.octet.result c.if-body-end.true c.octet.ensures

pub returns : goal.returns
returns c =
    let a = c.args in
    odd_none a.s.now a.body a.end c.if-body-end.false
