-- `rules_values::usage::usage_rules` meets its contract. Assumes nothing.
use Rattle.rules_values.specs.Usage.{usage_rows}
use Rattle.profiles.specs.Judged.{judged_in, row_of}
use Rattle.forms.proofs.Laws.Values.{by_standing}
use Rattle.report.proofs.Laws.Sinks.{◌⋙◌}
use Rattle.rules_values.proofs.Laws.Usage.{allowed_named}
use Rattle.rules_values.proofs.usage.usage_rules.Goals as goal

pub returns : goal.returns
unfolding usage_rows judged_in row_of
returns c =
    let a = c.args in
    let put = rw (c.signs-signs.ensures, c.other_usage-other.ensures, c.allowed_usage.ensures, allowed_named a.p a.kind) at
    (c.judge_value.ensures ⋙ c.judge_value-2.ensures) in
    by_standing a.p a.v (usage_rows a.p a.s.now a.kind) (λ t. rw t at put) (λ t. rw t at put) (λ t. rw t at put)
