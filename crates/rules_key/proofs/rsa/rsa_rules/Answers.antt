-- `rules_key::rsa::rsa_rules` meets its contract. Assumes nothing.
use mathlib.Core.Path.{refl, sym, ◌∙◌}
use Rattle.report.proofs.Laws.Sinks.{by_rows}
use Rattle.rules_key.proofs.Laws.Noted.{none_noted, broken_noted, numbers_noted}
use Rattle.rules_key.proofs.rsa.rsa_rules.Goals as goal

pub returns-then-not-is_rsa : goal.returns-then-not-is_rsa
returns-then-not-is_rsa c =
    let a = c.args in
    record { puts = none_noted a.p a.s.now a.k _ _ (sym c.is_rsa.ensures ∙ c.if-not-is_rsa.true); same_reference = refl }

pub returns-in-Some : goal.returns-in-Some
returns-in-Some c =
    let a = c.args in
    by_rows
    (numbers_noted a.p a.s.now a.k _ _ _ _ (sym c.is_rsa.ensures ∙ c.if-not-is_rsa.false) _ (sym c.in-Some.is ∙ c.rsa_key.ensures))
    c.number_rules.ensures

pub returns-in-None : goal.returns-in-None
returns-in-None c =
    let a = c.args in
    by_rows
    (broken_noted a.p a.s.now a.k _ _ _ _ (sym c.is_rsa.ensures ∙ c.if-not-is_rsa.false) (sym c.in-None.is ∙ c.rsa_key.ensures))
    c.judge.ensures
