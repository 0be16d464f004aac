-- `subjects::attribute_value` meets its contract. Assumes nothing.
use Rattle.subjects.specs.Types.{attribute_value}
use Rattle.subjects.proofs.types.attribute_value.Goals as goal

pub returns : goal.returns
unfolding attribute_value
returns c = c.second_in.ensures
