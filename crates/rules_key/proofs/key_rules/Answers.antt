-- `rules_key::key_rules` meets its contract. Assumes nothing.
use Rattle.rules_key.specs.Rules.{key_rows}
use Rattle.report.proofs.Laws.Sinks.{◌⋙◌}
use Rattle.rules_key.proofs.key_rules.Goals as goal

pub returns : goal.returns
unfolding key_rows
returns c = rw (← c.key_in-k.ensures) (c.algorithm_rules.ensures ⋙ c.rsa_rules.ensures)
