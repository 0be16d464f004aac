-- `der::header::length_at` meets its contract. Assumes nothing.
use mathlib.Core.Path.{◌∙◌}
use native.Mathlib.Omega.{arith}
use borrow.Author.Tests.{lt-ltb, le-ltb}
use Rattle.der.proofs.Laws.Length.{length_one, length_two}
use Rattle.der.proofs.header.length_at.Goals as goal

pub returns-then-first-lt128 : goal.returns-then-first-lt128
returns-then-first-lt128 c = rw (lt-ltb _ _ c.if-first-lt128.true) (omega (arith, c.wide.ensures.0, c.if-first-lt128.true))

pub returns-then-first-eq129 : goal.returns-then-first-eq129
returns-then-first-eq129 c =
    let a = c.args in
    length_one a.s.now a.at a.first _ c.if-first-eq129.true (c.wide-then-first-eq129.ensures.0 ∙ c.octet_past.ensures) c.wide-then-first-eq129.ensures.1

pub returns-then-first-eq130 : goal.returns-then-first-eq130
returns-then-first-eq130 c =
    let a = c.args in
    length_two a.s.now a.at a.first _ _ c.if-first-eq130.true
    (c.wide-high.ensures.0 ∙ c.octet_past-then-first-eq130.ensures) (c.wide-then-first-eq130.ensures.0 ∙ c.octet_past-then-first-eq130-2.ensures)
    c.wide-high.ensures.1 c.wide-then-first-eq130.ensures.1

pub returns : goal.returns
returns c = rw (le-ltb _ _ c.if-first-lt128.false, ← c.more_octets.ensures) c.number.ensures
