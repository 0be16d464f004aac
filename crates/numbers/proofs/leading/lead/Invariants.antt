-- `numbers::leading::lead` meets its contract. Assumes nothing.
use mathlib.Core.Path.{◌≡◌}
use Rattle.numbers.specs.Workings.Leading.{lead_of}
use Rattle.numbers.proofs.leading.lead.Given as goal

abbrev pub invariant-loop-i : goal.invariant-loop-i
invariant-loop-i l = lead_of l.s l.body l.end ≡ lead_of l.s l.i l.end
