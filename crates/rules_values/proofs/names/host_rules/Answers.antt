-- `rules_values::names::host_rules` meets its contract. Assumes nothing.
use Rattle.rules_values.specs.Hosts.{host_rows}
use Rattle.profiles.specs.Judged.{judged_in, row_of}
use Rattle.forms.proofs.Laws.Values.{by_standing}
use Rattle.report.proofs.Laws.Sinks.{◌⋙◌}
use Rattle.rules_values.proofs.names.host_rules.Goals as goal

pub returns : goal.returns
unfolding host_rows judged_in row_of
returns c =
    let a = c.args in
    let put = c.judge_items.ensures ⋙ c.judge_items-2.ensures ⋙ c.judge_items-3.ensures in
    by_standing a.p a.v (host_rows a.s.now) (λ t. rw t at put) (λ t. rw t at put) (λ t. rw t at put)
