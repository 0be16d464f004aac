-- `forms::loops::one` meets its contract. Assumes nothing.
use Rattle.forms.proofs.Laws.Lists.{one_joined}
use Rattle.forms.proofs.loops.one.Goals as goal

pub returns : goal.returns
returns c = one_joined _ _ _ _ _ c.first-found.ensures c.note.ensures c.each_behind.ensures
