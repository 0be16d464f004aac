-- `der::head_at` meets its contract. Assumes nothing.
use mathlib.Core.Path.{refl, sym, ap, ◌∙◌}
use mathlib.Core.Bool.{true}
use Prim.Native.Nat.{◌+◌}
use borrow.Author.Tests.{leb-false}
use Rattle.der.specs.Header.{head_if}
use Rattle.octets.specs.Octets.{octet_at}
use Rattle.der.proofs.Laws.Header.{head_short, head_narrow, head_outside}
use Rattle.der.proofs.header.head_at.Goals as goal

pub returns-then-first-lt128 : goal.returns-then-first-lt128
returns-then-first-lt128 c =
    let a = c.args in
    c.head_if.ensures ∙ (ap (head_if true a.at a.end (octet_at a.s.now a.at) 2) c.wide.ensures.0 ∙ head_short a.s.now
    a.at a.end (octet_at a.s.now a.at) (octet_at a.s.now (a.at + 1)) c.if-end-s.true refl refl
    c.if-first-lt128.true)

pub returns-then-end-s : goal.returns-then-end-s
returns-then-end-s c =
    let a = c.args in
    c.broken_head.ensures ∙ sym (head_narrow a.s.now a.at a.end (leb-false (a.at + 2) a.end (sym c.within.ensures ∙ c.if-within.false)))

pub returns : goal.returns
returns c =
    let a = c.args in
    c.broken_head-2.ensures ∙ sym (head_outside a.s.now a.at a.end c.if-end-s.false)
