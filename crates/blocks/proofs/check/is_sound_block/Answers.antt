-- `blocks::check::is_sound_block` meets its contract. Assumes nothing.
use borrow.Author.Tests.{eq-eqb, ne_eqb}
use Rattle.blocks.specs.Tests.{◌and◌}
use Rattle.blocks.specs.Block.{sound}
use Rattle.blocks.proofs.check.is_sound_block.Goals as goal

pub returns-then-block-ne512 : goal.returns-then-block-ne512
unfolding sound ◌and◌
returns-then-block-ne512 c = rw (ne_eqb _ 512 c.if-block-ne512.true)

pub returns : goal.returns
unfolding sound ◌and◌
returns c = rw (eq-eqb _ 512 c.if-block-ne512.false, c.check_of.ensures.0, c.pair.ensures.0)
