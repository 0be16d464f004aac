-- `rules_extensions::slots::list_place` meets its contract. Assumes nothing.
use Rattle.rules_extensions.proofs.slots.list_place.Goals as goal

pub returns-then-list : goal.returns-then-list
returns-then-list c = rw c.if-list.true

pub returns : goal.returns
returns c = rw c.if-list.false
