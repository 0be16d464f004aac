-- `rules::all_rules` meets its contract. Assumes nothing.
use Rattle.rules.specs.Rules.{all_rules}
use Rattle.report.proofs.Laws.Sinks.{◌⋙◌}
use Rattle.rules.proofs.all_rules.Goals as goal

pub returns : goal.returns
unfolding all_rules
returns c = c.field_rules.ensures ⋙ c.subject_rules.ensures ⋙ c.key_rules.ensures ⋙ c.extension_rules.ensures ⋙ c.value_rules.ensures
