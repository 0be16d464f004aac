-- `rules_values::policy::policy_rules` meets its contract. Assumes nothing.
use Rattle.rules_values.specs.Policies.{policy_rows}
use Rattle.profiles.specs.Judged.{judged_in, row_of}
use Rattle.forms.proofs.Laws.Values.{by_standing}
use Rattle.report.proofs.Laws.Sinks.{◌⋙◌}
use Rattle.rules_values.proofs.policy.policy_rules.Goals as goal

pub returns : goal.returns
unfolding policy_rows judged_in row_of
returns c =
    let a = c.args in
    let put = rw (c.none_of-forum.ensures, c.none_of-federal.ensures) at
    (c.judge_value.ensures ⋙ c.judge_value-2.ensures ⋙ c.judge_items.ensures) in
    by_standing a.p a.v (policy_rows a.p a.s.now) (λ t. rw t at put) (λ t. rw t at put) (λ t. rw t at put)
