-- `rules_extensions::extension_rules` meets its contract. Assumes nothing.
use Rattle.rules_extensions.specs.Rules.{extension_rows}
use Rattle.report.proofs.Laws.Sinks.{◌⋙◌}
use Rattle.rules_extensions.proofs.extension_rules.Goals as goal

pub returns : goal.returns
unfolding extension_rows
returns c =
    rw (← c.fields_in-c.ensures, ← c.slots_in-each.ensures, ← c.has_repeats-repeated.ensures, ← c.list_place-list.ensures)
    (c.over_slots.ensures ⋙ c.over_slots-2.ensures ⋙ c.over_slots-3.ensures ⋙ c.identifiers.ensures)
