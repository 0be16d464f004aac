-- `forms::firsts::first_among` meets its contract. Assumes nothing.
use borrow.Author.Tests.{tests}
use Rattle.std.proofs.Common.{rules}
use Rattle.std.proofs.lemmas.Iterator.Search.{find_from_yields_List}
use Rattle.forms.specs.Kinds.{of_kind}
use Rattle.der.proofs.Laws.Chains.{walked, found}
use Rattle.forms.proofs.firsts.first_among.Goals as goal

pub returns : goal.returns
returns c =
    let a = c.args in
    rw (c.unwrap_or.ensures, c.missing.ensures) (found (of_kind a.kind a.p a.s.now) a.to _ c.find.result
    (find_from_yields_List (of_kind a.kind a.p a.s.now) _ _ c.find.result c.find.ensures.ran (walked _ c.children_of.ensures.left)
    (λ x b q k. search (rules, tests))))
