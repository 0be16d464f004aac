-- `forms::extensions::is_out_of_place_in` meets its contract. Assumes nothing.
use Rattle.forms.specs.Kinds.{is_out_of_place_in}
use Rattle.forms.proofs.extensions.is_out_of_place_in.Goals as goal

pub returns-then-is_out_of_place : goal.returns-then-is_out_of_place
unfolding is_out_of_place_in
returns-then-is_out_of_place c =
    rw (← c.slot_of.ensures, ← c.mark_of.ensures, ← c.is_out_of_place.ensures, c.if-is_out_of_place.true)
    (rw (← c.extension_of-extension.ensures, ← c.is_repeat.ensures))

pub returns : goal.returns
unfolding is_out_of_place_in
returns c = rw (← c.slot_of.ensures, ← c.mark_of.ensures, ← c.is_out_of_place.ensures, c.if-is_out_of_place.false)
