-- `usages::usage::any_later` meets its contract. Assumes nothing.
use Rattle.std.proofs.Common.{[], ◌∷◌, not, eqb, ◌+◌, ◌-◌, ◌≡◌, ◌∙◌, arith, rules, tests}
use Rattle.octets.specs.Octets.{octets_from}
use Rattle.std.proofs.lemmas.Iterator.Search.{any_from_yields_List}
use Rattle.octets.proofs.Laws.Stretches.{stretch_walked, stretch_far}
use Rattle.usages.specs.Usage.{any_below, bit_at}
use Rattle.usages.proofs.Laws.Usage.{octet_bits, set_any}
use Rattle.usages.proofs.usage.any_later.Goals as goal

pub returns : goal.returns
returns c =
    let a = c.args in
    let some = any_from_yields_List (λ b. any_below (bit_at (b ∷ [])) 8) _ _ c.any.result c.any.ensures.ran (stretch_walked _ c.octets_from.ensures.left)
    (λ x b q k. let e : b ≡ not (eqb x 0) = search (rules, tests) in (search (rules, tests), e ∙ octet_bits x (search (rules, tests)))) in
    rw (stretch_far a.s.now (a.body + 2) c.saturating_add.result c.minus.result (omega arith) c.saturating_add.ensures, c.minus.ensures) at some
    ∙ set_any (octets_from a.s.now (a.body + 2) (a.n - 2))
