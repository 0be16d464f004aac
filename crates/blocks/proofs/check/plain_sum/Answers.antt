use Rattle.std.proofs.Common.{rules}
use Rattle.blocks.proofs.Laws.Weigh.{sum_apart}
use Rattle.blocks.proofs.check.plain_sum.Goals as goal

pub returns : goal.returns
returns c = search (rules, sum_apart)
