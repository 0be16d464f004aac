-- `rules_values::value_rules` meets its contract. Assumes nothing.
use Rattle.rules_values.specs.Rules.{value_rows}
use Rattle.certificate.specs.Slots.{numbers_from}
use Rattle.report.proofs.Laws.Sinks.{◌⋙◌}
use Rattle.rules_values.proofs.value_rules.Goals as goal

pub returns : goal.returns
unfolding value_rows numbers_from
returns c =
    rw (← c.slots_in-slots.ensures, ← c.issuer_in-i.ensures, ← c.key_in-key.ensures)
    (c.identifier_rules.ensures
    ⋙ c.usage_rules.ensures
    ⋙ c.purpose_rules.ensures
    ⋙ c.policy_rules.ensures
    ⋙ c.host_rules.ensures
    ⋙ c.access_rules.ensures
    ⋙ c.point_rules.ensures
    ⋙ c.authority_rules.ensures)
