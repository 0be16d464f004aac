-- `rules_fields::field_rules` meets its contract. Assumes nothing.
use Rattle.report.proofs.Laws.Sinks.{◌⋙◌}
use Rattle.rules_fields.specs.Rules.{field_rows}
use Rattle.rules_fields.proofs.field_rules.Goals as goal

pub returns : goal.returns
unfolding field_rows
returns c =
    rw (← c.issuer_in-i.ensures, ← c.fields_in-c.ensures)
    (c.version_and_serial.ensures ⋙ c.algorithms_and_name.ensures ⋙ c.validity.ensures)
