-- `profiles::judged::holds` meets its contract. Assumes nothing.
use mathlib.Core.Path.{◌∙◌}
use Rattle.profiles.proofs.Laws.Judged.{bits_right}
use Rattle.profiles.proofs.judged.holds.Goals as goal

pub returns : goal.returns
returns c = let a = c.args in rw c.judged_bits.ensures at c.bit.ensures ∙ bits_right a.p a.rule
