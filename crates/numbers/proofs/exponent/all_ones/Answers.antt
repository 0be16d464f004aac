-- `numbers::exponent::all_ones` meets its contract. Assumes nothing.
use Rattle.std.proofs.Common.{eqb, ◌-◌, ◌∙◌, rules, tests}
use Rattle.std.proofs.lemmas.Iterator.Search.{all_from_yields_List}
use Rattle.octets.specs.Octets.{octets_from}
use Rattle.octets.proofs.Laws.Stretches.{stretch_walked}
use Rattle.numbers.proofs.Laws.Exponent.{ones_all}
use Rattle.numbers.proofs.exponent.all_ones.Goals as goal

pub returns : goal.returns
returns c =
    let a = c.args in
    let ones = all_from_yields_List (λ b. eqb b 255) _ _ c.all.result c.all.ensures.ran (stretch_walked _ c.octets_from.ensures.left) (λ x b q k. search (rules, tests)) in
    rw c.minus.ensures at ones ∙ ones_all (octets_from a.s.now a.at (a.end - a.at))
