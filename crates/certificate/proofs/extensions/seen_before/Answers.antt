-- `certificate::seen_before` meets its contract. Assumes nothing.
use mathlib.Core.Path.{◌∙◌}
use borrow.Author.Tests.{tests}
use Rattle.std.proofs.Common.{rules}
use Rattle.std.proofs.lemmas.Iterator.Search.{any_from_yields_List}
use Rattle.certificate.specs.Extensions.{same_identifier, seen_before}
use Rattle.der.proofs.Laws.Chains.{walked, any_is}
use Rattle.certificate.proofs.extensions.seen_before.Goals as goal

pub returns : goal.returns
unfolding seen_before
returns c =
    let a = c.args in
    any_from_yields_List (λ e. same_identifier a.s.now e a.h) _ _ c.any.result c.any.ensures.ran (walked _ c.children_of.ensures.left)
    (λ x b q k. search (rules, tests)) ∙ any_is (λ e. same_identifier a.s.now e a.h) _
