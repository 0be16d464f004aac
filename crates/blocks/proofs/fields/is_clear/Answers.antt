-- `blocks::fields::is_clear` meets its contract. Assumes nothing.
use Rattle.blocks.proofs.fields.is_clear.Goals as goal

pub returns : goal.returns
returns c = rw c.octet.ensures
