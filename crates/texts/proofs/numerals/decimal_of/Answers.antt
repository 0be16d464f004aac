use mathlib.Core.Path.{sym, ◌∙◌}
use native.Mathlib.Omega.{arith}
use Rattle.texts.proofs.Laws.Numerals.{append_taken, decimal_empty, decimal_begins, decimal_next, decimal_stops, decimal_done}
use Rattle.texts.proofs.numerals.decimal_of.Goals as goal

pub returns-then-is_empty : goal.returns-then-is_empty
returns-then-is_empty c = decimal_empty _ (sym c.is_empty.ensures ∙ c.if-is_empty.true)

pub loop-c-init : goal.loop-c-init
loop-c-init c = (omega arith, decimal_begins _ (sym c.is_empty.ensures ∙ c.if-is_empty.false))

pub returns-in_err-number : goal.returns-in_err-number
returns-in_err-number c = rw c.from_residual.ensures (sym (c.loop-c.invariant.1 ∙ decimal_stops _ _ _ c.loop-c-test.true (sym c.in_err-number.ensures)))

pub loop-c-preserved : goal.loop-c-preserved
loop-c-preserved c =
    let more = sym c.in_ok-number.ensures in
    ((append_taken _ _ _ more).small, c.loop-c.invariant.1 ∙ decimal_next _ _ _ _ c.loop-c-test.true more)

pub returns : goal.returns
returns c = sym (c.loop-c.invariant.1 ∙ decimal_done _ _ _ c.loop-c-test.false c.loop-c.invariant.0)
