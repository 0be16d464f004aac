-- `usages::signs_alone` meets its contract. Assumes nothing.
use Rattle.usages.specs.Usage.{passing_below, bits_in}
use Rattle.usages.proofs.usage.signs_alone.Goals as goal

pub returns : goal.returns
unfolding bits_in passing_below
returns c = rw (c.other_usage.ensures, c.as_asked.ensures, c.lasts.ensures, c.signs.ensures)
