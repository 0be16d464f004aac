-- `asn::fitting::may_stand` meets its contract. Assumes nothing.
use borrow.Author.Tests.{eq-eqb}
use Rattle.asn.proofs.Laws.Steps.{stands_by_test, stands_in_order}
use Rattle.asn.proofs.fitting.may_stand.Goals as goal

pub returns-then-row-eq0 : goal.returns-then-row-eq0
returns-then-row-eq0 c = rw (eq-eqb _ _ c.if-row-eq0.true)

pub returns-then-inside-lt-TESTS : goal.returns-then-inside-lt-TESTS
returns-then-inside-lt-TESTS c =
    let a = c.args in
    stands_by_test a.s.now a.h a.row c.if-row-eq0.false c.passes_test.result c.if-inside-lt-TESTS.true c.minus.result c.minus.ensures
    c.passes_test.ensures

pub returns : goal.returns
returns c =
    let a = c.args in
    stands_in_order a.s.now a.h a.row c.if-row-eq0.false c.set_in_order.result c.if-inside-lt-TESTS.false c.set_in_order.ensures
