-- `blocks::fields::is_filled` meets its contract. Assumes nothing.
use Rattle.std.proofs.Common.{eqb, ◌+◌, ◌∙◌, arith, rules, tests}
use Rattle.std.proofs.lemmas.Iterator.Search.{all_from_yields_List}
use Rattle.octets.proofs.Laws.Stretches.{stretch_walked, stretch_far}
use Rattle.blocks.proofs.Laws.Fill.{fill_all}
use Rattle.blocks.proofs.fields.is_filled.Goals as goal

pub returns : goal.returns
returns c =
    let a = c.args in
    let zeros = all_from_yields_List (λ b. eqb b 0) _ _ c.all.result c.all.ensures.ran (stretch_walked _ c.octets_from.ensures.left) (λ x b q k. search (rules, tests)) in
    rw (stretch_far a.block.now (a.used + 8) c.saturating_add.result c.minus.result (omega arith) c.saturating_add.ensures, c.minus.ensures) at zeros ∙ fill_all a.block.now a.used
