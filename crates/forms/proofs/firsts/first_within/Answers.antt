-- `forms::firsts::first_within` meets its contract. Assumes nothing.
use mathlib.Core.Path.{sym, ap, ◌∙◌}
use mathlib.Core.Bool.{not}
use borrow.Author.Tests.{tests}
use Rattle.std.proofs.Common.{rules, Option}
use Rattle.std.specs.Option.{unwrap_or}
use Rattle.std.proofs.lemmas.Iterator.{YieldsList-from_map}
use Rattle.std.proofs.lemmas.Iterator.Consumers.{YieldsList-at}
use Rattle.std.proofs.lemmas.Iterator.Search.{find_from_yields_List}
use Rattle.std.proofs.lemmas.Iterator.Adapters.{option_map_id}
use Rattle.forms.specs.Kinds.{of_kind}
use Rattle.forms.specs.Lists.{items_within}
use Rattle.der.specs.declared.header.Head.{Head}
use Rattle.der.specs.Elements.{is_empty}
use Rattle.der.specs.Members.{missing}
use Rattle.der.proofs.Laws.Chains.{walked}
use Rattle.forms.proofs.Laws.Lists.{first_held, within_first}
use Rattle.forms.proofs.firsts.first_within.Goals as goal

pub returns : goal.returns
unfolding items_within
returns c =
    let a = c.args in
    let is = find_from_yields_List (λ h. not (is_empty h)) _ _ c.find.result c.find.ensures.ran
    (YieldsList-from_map _ (first_held a.nest (of_kind a.kind a.p a.s.now) a.s.now) (YieldsList-at c.map.ensures.source (walked _ c.children_of.ensures.left))
    c.map.ensures.closure (λ x r q k. search rules)) (λ x b q k. search (rules, tests)) in
    rw (c.unwrap_or.ensures, c.missing.ensures)
    (ap (λ (o : Option Head). unwrap_or o (missing a.to)) (sym (option_map_id c.find.result) ∙ is) ∙ within_first a.nest (of_kind a.kind a.p a.s.now) a.s.now a.to _)
