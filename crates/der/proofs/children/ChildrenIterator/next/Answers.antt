-- A walk along the elements of a stretch meets its contract. Assumes nothing.
use mathlib.Core.Path.{ap}
use native.Mathlib.Omega.{arith}
use Rattle.std.proofs.Common.{length}
use Rattle.der.specs.Children.{children_left}
use Rattle.der.proofs.Laws.Children.{children_front, children_done}
use Rattle.der.proofs.children.ChildrenIterator.next.Goals as goal

pub returns-then-self-clause-steps : goal.returns-then-self-clause-steps
unfolding children_left
returns-then-self-clause-steps c = children_front _ _ _ _ c.if-self.true c.head_at-child.ensures

pub returns-then-self-clause-goes : goal.returns-then-self-clause-goes
unfolding children_left
returns-then-self-clause-goes c =
    let shorter = ap length (children_front _ _ _ _ c.if-self.true c.head_at-child.ensures) in
    record { on = λ _. (tt, tt, omega (arith, shorter)); keeps = tt; rests = λ _. tt }

pub returns-clause-steps : goal.returns-clause-steps
unfolding children_left
returns-clause-steps c =
    let none = children_done _ _ _ c.if-self.false in
    (none, none)
