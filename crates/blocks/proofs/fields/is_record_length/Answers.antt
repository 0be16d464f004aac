-- `blocks::fields::is_record_length` meets its contract. Assumes nothing.
use lib.Dec.{leb}
use Rattle.blocks.specs.Tests.{between}
use Rattle.blocks.proofs.Laws.Logic.{and_same}
use Rattle.blocks.proofs.fields.is_record_length.Goals as goal

pub returns : goal.returns
unfolding between
returns c = and_same (leb 3 c.args.n) (leb c.args.n 16387)
