use mathlib.Core.Path.{◌∙◌}
use borrow.Author.Tests.{tests}
use Rattle.std.proofs.Common.{rules}
use Rattle.std.proofs.lemmas.Iterator.Search.{any_from_yields_List}
use Rattle.locations.specs.Points.{is_restriction}
use Rattle.der.proofs.Laws.Chains.{walked, any_is}
use Rattle.locations.proofs.points.restricted.Goals as goal

pub returns : goal.returns
returns c =
    any_from_yields_List is_restriction _ _ _ c.any.ensures.ran (walked _ c.members_in.ensures.left) (λ x b q k. search (rules, tests)) ∙ any_is is_restriction _
