-- The side that a text names, by the tests that are made of all its octets.
use Rattle.std.proofs.Common.{sym, ◌∙◌}
use Rattle.texts.specs.Texts.{word}
use Rattle.deckget.proofs.Laws.Sides.{names_certificate, names_issuer, names_neither}
use Rattle.deckget.proofs.sides.side_named.Goals as goal

pub returns-then-equals : goal.returns-then-equals
unfolding word
returns-then-equals c = names_certificate _ (sym c.equals.ensures ∙ c.if-equals.true)

pub returns-then-equals-2 : goal.returns-then-equals-2
unfolding word
returns-then-equals-2 c = names_issuer _ (sym c.equals.ensures ∙ c.if-equals.false) (sym c.equals-2.ensures ∙ c.if-equals-2.true)

pub returns : goal.returns
unfolding word
returns c = names_neither _ (sym c.equals.ensures ∙ c.if-equals.false) (sym c.equals-2.ensures ∙ c.if-equals-2.false)
