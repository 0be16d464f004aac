-- `forms::extensions::is_repeat` meets its contract. Assumes nothing.
use Rattle.forms.proofs.extensions.is_repeat.Goals as goal

pub returns-then-repeats : goal.returns-then-repeats
returns-then-repeats c = rw c.if-repeats.true c.seen_before.ensures

pub returns : goal.returns
returns c = rw c.if-repeats.false
