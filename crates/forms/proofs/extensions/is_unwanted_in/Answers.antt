-- `forms::extensions::is_unwanted_in` meets its contract. Assumes nothing.
use Rattle.forms.specs.Kinds.{is_unwanted_in}
use Rattle.forms.proofs.extensions.is_unwanted_in.Goals as goal

pub returns-then-is_unwanted : goal.returns-then-is_unwanted
unfolding is_unwanted_in
returns-then-is_unwanted c =
    rw (← c.slot_of.ensures, ← c.mark_of.ensures, ← c.is_unwanted.ensures, c.if-is_unwanted.true)
    (rw (← c.is_period.ensures, ← c.is_repeat.ensures))

pub returns : goal.returns
unfolding is_unwanted_in
returns c = rw (← c.slot_of.ensures, ← c.mark_of.ensures, ← c.is_unwanted.ensures, c.if-is_unwanted.false)
