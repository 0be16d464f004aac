-- `der::head_any` meets its contract. Assumes nothing.
use mathlib.Core.Path.{◌∙◌}
use native.Mathlib.Omega.{arith}
use Rattle.der.proofs.Laws.Header.{head_read}
use Rattle.der.proofs.header.head_any.Goals as goal

pub returns : goal.returns
returns c =
    let a = c.args in
    c.head_if.ensures ∙ head_read a.s.now a.at a.end c.octet.result c.octet_past-first.result c.wide-skip.result
    c.octet_past-high.result c.length_at-len.result c.long_ok.result (omega arith) c.octet.ensures c.octet_past-first.ensures
    (c.wide-skip.ensures.0 ∙ c.more_octets.ensures) c.octet_past-high.ensures c.length_at-len.ensures c.long_ok.ensures
