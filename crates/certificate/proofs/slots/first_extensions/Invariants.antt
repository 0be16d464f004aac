-- `certificate::slots::first_extensions` meets its contract. The invariant: the first extensions and repeats of what is passed. Assumes nothing.
use Rattle.der.specs.Children.{children_left}
use Rattle.certificate.proofs.Laws.Slots.{Seen}
use Rattle.certificate.proofs.slots.first_extensions.Given as goal

abbrev pub invariant-loop-e : goal.invariant-loop-e
invariant-loop-e l = Seen l.s l.list.body l.list.end (children_left l.e-iterator) l.firsts l.repeated
