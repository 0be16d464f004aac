-- One octet more of the room is filled.
use Rattle.std.proofs.Common.{rules}
use Rattle.answers.proofs.Laws.Filling.{filled_more}
use Rattle.answers.proofs.calls.fill.Goals as goal

pub loop-i-preserved : goal.loop-i-preserved
loop-i-preserved c = filled_more c.loop-i.room c.loop-i.i c.loop-i.invariant (search rules)
