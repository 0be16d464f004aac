use mathlib.Core.Path.{sym, ◌∙◌}
use native.Mathlib.Omega.{arith}
use Rattle.std.proofs.lemmas.Result.{err_from_is_err_and}
use Rattle.asn.specs.Workings.Table.{slots_at}
use Rattle.asn.proofs.Laws.Steps.{first_inside, stands_not, stands, members_stand, members_not, all_stand}
use Rattle.asn.proofs.fitting.+walk.Goals as goal

pub returns-then-not-may_stand : goal.returns-then-not-may_stand
returns-then-not-may_stand t c =
    sym (stands_not _ _ (slots_at c.loop-at.j) _ _ _ _ _ c.loop-at-test.true c.head_at-h.ensures c.find_field-found.ensures c.may_stand.ensures c.if-not-may_stand.true)
    ∙ c.loop-at.invariant.1

pub walk-requires : goal.walk-requires
walk-requires t c = (omega (arith, first_inside _ _ _ _ c.loop-at-test.true c.head_at-h.ensures), c.requires)

pub returns-in_err-walk : goal.returns-in_err-walk
returns-in_err-walk t c =
    let e = members_not _ c.args.outer (slots_at c.loop-at.j) _ _ _ _ _ c.loop-at-test.true c.head_at-h.ensures c.find_field-found.ensures c.may_stand.ensures c.if-not-may_stand.false
    c.if-inside-ge-TESTS.true c.walk.result c.walk.ensures c.in_err-walk.was in
    let p = err_from_is_err_and c.from_residual.result c.from_residual.ensures.1 in
    rw (p.1, p.2) (sym e ∙ c.loop-at.invariant.1)

pub loop-at-smaller-in_ok-walk : goal.loop-at-smaller-in_ok-walk
loop-at-smaller-in_ok-walk t c = omega (arith, first_inside _ _ _ _ c.loop-at-test.true c.head_at-h.ensures)

pub loop-at-preserved-in_ok-walk : goal.loop-at-preserved-in_ok-walk
loop-at-preserved-in_ok-walk t c =
    let e = members_stand _ c.args.outer (slots_at c.loop-at.j) _ _ _ _ _ c.loop-at-test.true c.head_at-h.ensures c.find_field-found.ensures c.may_stand.ensures c.if-not-may_stand.false
    c.if-inside-ge-TESTS.true c.walk.result c.walk.ensures c.in_ok-walk.was in
    (omega (arith, first_inside _ _ _ _ c.loop-at-test.true c.head_at-h.ensures, c.loop-at.invariant.0), sym e ∙ c.loop-at.invariant.1)

pub loop-at-smaller : goal.loop-at-smaller
loop-at-smaller t c = omega (arith, first_inside _ _ _ _ c.loop-at-test.true c.head_at-h.ensures)

pub loop-at-preserved : goal.loop-at-preserved
loop-at-preserved t c = (
  omega (arith, first_inside _ _ _ _ c.loop-at-test.true c.head_at-h.ensures, c.loop-at.invariant.0),
  sym (stands _ _ (slots_at c.loop-at.j) _ _ _ _ _ c.loop-at-test.true c.head_at-h.ensures c.find_field-found.ensures c.may_stand.ensures c.if-not-may_stand.false
      c.if-inside-ge-TESTS.false) ∙ c.loop-at.invariant.1,
)

pub returns : goal.returns
returns t c =
    let a = c.args in
    c.end_before.ensures
    ∙ sym (all_stand a.s.now a.outer (slots_at c.loop-at.j) c.loop-at.at a.end c.loop-at-test.false)
    ∙ c.loop-at.invariant.1
