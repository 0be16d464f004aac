-- `rules_extensions::slots::is_miscritical_at` meets its contract. Assumes nothing.
use Rattle.rules_extensions.proofs.slots.is_miscritical_at.Goals as goal

pub returns : goal.returns
returns c = cc
