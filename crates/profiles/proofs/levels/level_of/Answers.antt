-- `profiles::levels::level_of` meets its contract: an arm a rule that says "should". Assumes nothing.
use mathlib.Core.Path.{refl}
use Rattle.octets.specs.Octets.{is_one_of}
use Rattle.profiles.proofs.Laws.Levels.{must_else}
use Rattle.profiles.proofs.levels.level_of.Goals as goal

pub returns : goal.returns
unfolding is_one_of
returns c = must_else c.args.rule refl
