-- `subjects::is_crowded` meets its contract. Assumes nothing.
use Rattle.subjects.proofs.Laws.Sets.{crowded_law}
use Rattle.subjects.proofs.sets.is_crowded.Goals as goal

pub returns : goal.returns
returns c =
    let a = c.args in
    crowded_law a.s.now a.h c.head_at-first.result c.head_at-first.ensures
