use mathlib.Core.Path.{refl}
use Rattle.der.specs.Children.{children_left}
use Rattle.der.proofs.children.children_of.Goals as goal

pub returns-clause-left : goal.returns-clause-left
unfolding children_left
returns-clause-left c = refl
