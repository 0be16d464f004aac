-- `rules_extensions::identifiers::identifiers` meets its contract. Assumes nothing.
use Rattle.profiles.specs.Judged.{judged_in, row_of}
use Rattle.rules_extensions.specs.Identifiers.{identifier_rows}
use Rattle.forms.specs.Kinds.{is_unwanted_in, is_out_of_place_in}
use Rattle.report.proofs.Laws.Sinks.{◌⋙◌}
use Rattle.rules_extensions.proofs.identifiers.identifiers.Goals as goal

pub returns : goal.returns
unfolding identifier_rows judged_in row_of is_unwanted_in is_out_of_place_in
returns c = c.judge_each.ensures ⋙ c.judge_each-2.ensures ⋙ c.judge_each-3.ensures
