-- `forms::firsts::none_of` meets its contract. Assumes nothing.
use Rattle.forms.specs.Kinds.{of_kind}
use Rattle.forms.proofs.Laws.Lists.{any_items, turned}
use Rattle.forms.proofs.firsts.none_of.Goals as goal

pub returns : goal.returns
returns c =
    let a = c.args in
    rw (c.is_none.ensures, c.first.ensures) (turned _ _ (any_items a.items (of_kind a.kind a.p a.s.now) a.s.now))
