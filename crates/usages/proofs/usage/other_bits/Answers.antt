-- `usages::usage::other_bits` meets its contract. Assumes nothing.
use Rattle.usages.proofs.Laws.Usage.{other_none, other_first, other_later}
use Rattle.usages.proofs.usage.other_bits.Goals as goal

pub returns-then-n-lt2 : goal.returns-then-n-lt2
returns-then-n-lt2 c = let a = c.args in other_none a.s.now a.body a.n a.allowed c.if-n-lt2.true

pub returns-then-other_in_first : goal.returns-then-other_in_first
returns-then-other_in_first c =
    let a = c.args in
    other_first a.s.now a.body a.n c.octet_past.result a.allowed c.other_in_first.result c.if-n-lt2.false
    c.octet_past.ensures c.other_in_first.ensures c.if-other_in_first.true

pub returns : goal.returns
returns c =
    let a = c.args in
    other_later a.s.now a.body a.n c.octet_past.result a.allowed c.other_in_first.result c.if-n-lt2.false
    c.octet_past.ensures c.other_in_first.ensures c.any_later.result c.if-other_in_first.false c.any_later.ensures
