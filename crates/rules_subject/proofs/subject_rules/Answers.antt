-- `rules_subject::subject_rules` meets its contract. Assumes nothing.
use Rattle.rules_subject.specs.Rules.{subject_rows}
use Rattle.certificate.specs.Slots.{numbers_from}
use Rattle.report.proofs.Laws.Sinks.{◌⋙◌}
use Rattle.rules_subject.proofs.subject_rules.Goals as goal

pub returns : goal.returns
unfolding subject_rows numbers_from
returns c =
    rw (← c.slots_in-slots.ensures, ← c.fields_in-c.ensures)
    (c.name_and_country.ensures ⋙ c.organization_and_state.ensures ⋙ c.name_and_sets.ensures)
