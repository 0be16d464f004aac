-- `texts::putting::Text::word` meets its contract. The invariant: so far the first i octets are put. Assumes nothing.
use lib.ListN.{take}
use Rattle.texts.specs.Putting.{Grown}
use Rattle.texts.proofs.putting.Text.word.Given as goal

abbrev pub invariant-loop-i : goal.invariant-loop-i
invariant-loop-i l = Grown (take l.i l.text) l.initial.self l.self
