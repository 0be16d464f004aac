-- `texts::putting::Text::put` meets its contract. Assumes nothing.
use mathlib.Core.Path.{refl}
use Rattle.texts.proofs.Laws.Putting.{put_in, put_out}
use Rattle.texts.proofs.putting.Text.put.Goals as goal

pub returns-then-self : goal.returns-then-self
returns-then-self c = record { spelled = put_in _ _ _ c.if-self.true; same_space = refl }

pub returns-else-self : goal.returns-else-self
returns-else-self c = record { spelled = put_out _ _ _ c.if-self.false; same_space = refl }
