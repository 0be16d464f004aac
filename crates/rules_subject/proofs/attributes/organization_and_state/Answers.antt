-- `rules_subject::attributes::organization_and_state` meets its contract. Assumes nothing.
use Rattle.profiles.specs.Judged.{judged_in, row_of}
use Rattle.rules_subject.specs.Attributes.{organization_rows}
use Rattle.report.proofs.Laws.Sinks.{◌⋙◌}
use Rattle.rules_subject.proofs.attributes.organization_and_state.Goals as goal

pub returns : goal.returns
unfolding organization_rows judged_in row_of
returns c = c.judge_one.ensures ⋙ c.judge_each.ensures ⋙ c.judge_one-2.ensures ⋙ c.judge_each-2.ensures
