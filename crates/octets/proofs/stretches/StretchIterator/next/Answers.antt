-- A walk along the octets of a stretch meets its contract. Assumes nothing.
use mathlib.Core.Path.{ap}
use native.Mathlib.Omega.{arith}
use Rattle.std.proofs.Common.{length}
use Rattle.octets.specs.Stretches.{octets_left}
use Rattle.octets.proofs.Laws.Stretches.{octets_front}
use Rattle.octets.proofs.Laws.Octets.{octets_done}
use Rattle.octets.proofs.stretches.StretchIterator.next.Goals as goal

pub returns-then-self-clause-steps : goal.returns-then-self-clause-steps
unfolding octets_left
returns-then-self-clause-steps c = octets_front _ _ _ _ _ c.if-self.true c.octet_past-octet.ensures

pub returns-then-self-clause-goes : goal.returns-then-self-clause-goes
unfolding octets_left
returns-then-self-clause-goes c =
    let shorter = ap length (octets_front _ _ _ _ _ c.if-self.true c.octet_past-octet.ensures) in
    record { on = λ _. (tt, tt, omega (arith, shorter)); keeps = tt; rests = λ _. tt }

pub returns-clause-steps : goal.returns-clause-steps
unfolding octets_left
returns-clause-steps c =
    let none = octets_done _ _ _ _ (omega (arith, c.if-self.false)) in
    (none, none)
