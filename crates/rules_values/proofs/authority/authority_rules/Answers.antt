-- `rules_values::authority::authority_rules` meets its contract. Assumes nothing.
use Rattle.report.specs.Rows.{◌for◌⦂◌}
use mathlib.Core.List.{[], ◌∷◌}
use Rattle.rules_values.specs.Authority.{rule421, rule422, rule423, rule424, authority_rows}
use Rattle.profiles.specs.Judged.{subordinate, judged_in, row_of}
use Rattle.forms.proofs.Laws.Values.{by_standing}
use Rattle.report.proofs.Laws.Sinks.{◌⋙◌}
use Rattle.rules_values.proofs.authority.authority_rules.Goals as goal

pub returns : goal.returns
unfolding authority_rows judged_in row_of
returns c =
    let a = c.args in
    let s = a.s.now in
    let last-put = rw c.is_last_authority-last.ensures at c.judge_value.ensures in
    let signs-put = rw c.signs_for_authority-signs.ensures at c.judge_value-2.ensures in
    let entries-put = c.judge_items.ensures in
    let names-put = c.judge_items-2.ensures in
    by_standing a.p a.constraints (λ e. 421 for subordinate ⦂ rule421 s e ∷ []) (λ t. rw t at last-put) (λ t. rw t at last-put) (λ t. rw t at last-put)
    ⋙ by_standing a.p a.usage (λ e. 422 for subordinate ⦂ rule422 s e ∷ []) (λ t. rw t at signs-put) (λ t. rw t at signs-put) (λ t. rw t at signs-put)
    ⋙ by_standing a.p a.access (λ e. 423 for subordinate ⦂ rule423 s e ∷ []) (λ t. rw t at entries-put) (λ t. rw t at entries-put) (λ t. rw t at entries-put)
    ⋙ by_standing a.p a.points (λ e. 424 for subordinate ⦂ rule424 s e ∷ []) (λ t. rw t at names-put) (λ t. rw t at names-put) (λ t. rw t at names-put)
