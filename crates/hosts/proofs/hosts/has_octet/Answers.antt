-- `hosts::hosts::has_octet` meets its contract. Assumes nothing.
use Rattle.std.proofs.Common.{eqb, ◌∙◌, rules, tests}
use Rattle.std.proofs.lemmas.Iterator.Search.{any_from_yields_List}
use Rattle.octets.specs.Octets.{octets_from}
use Rattle.octets.proofs.Laws.Stretches.{stretch_walked, one_of_any}
use Rattle.hosts.proofs.hosts.has_octet.Goals as goal

pub returns : goal.returns
returns c =
    let a = c.args in
    any_from_yields_List (λ b. eqb b a.x) _ _ c.any.result c.any.ensures.ran (stretch_walked _ c.octets_from.ensures.left) (λ x b q k. search (rules, tests))
    ∙ one_of_any a.x (octets_from a.s.now a.body a.n)
