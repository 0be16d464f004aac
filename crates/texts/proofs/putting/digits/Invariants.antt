-- `texts::putting::digits` meets its contract. The number that is left falls. Assumes nothing.
use Rattle.texts.proofs.Laws.Digits.{Begun}
use Rattle.texts.proofs.putting.digits.Given as goal

abbrev pub invariant-loop-rest : goal.invariant-loop-rest
invariant-loop-rest l = Begun l.x l.space l.rest l.i

abbrev pub decreases-loop-rest : goal.decreases-loop-rest
decreases-loop-rest l = l.rest
