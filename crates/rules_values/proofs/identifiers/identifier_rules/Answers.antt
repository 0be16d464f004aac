-- `rules_values::identifiers::identifier_rules` meets its contract. Assumes nothing.
use Rattle.report.specs.Rows.{◌for◌⦂◌}
use mathlib.Core.List.{[], ◌∷◌}
use Rattle.rules_values.specs.Identifiers.{rule401, rule402, rule403, key_identifier_rows}
use Rattle.profiles.specs.Judged.{S, every_profile, judged_in, row_of}
use Rattle.forms.proofs.Laws.Values.{by_standing}
use Rattle.certificate.specs.Issuer.{known}
use Rattle.report.proofs.Laws.Sinks.{◌⋙◌}
use Rattle.rules_values.proofs.identifiers.identifier_rules.Goals as goal

pub returns : goal.returns
unfolding key_identifier_rows judged_in row_of
returns c =
    let a = c.args in
    let s = a.s.now in
    let key = (known a.issuer.now a.i).key in
    let held-put = rw (c.is_held_by-held.ensures, c.ok.ensures.value) at c.judge_value.ensures in
    let Filled-put = rw c.is_filled-filled.ensures at c.judge_value-2.ensures in
    let twenty-put = rw c.is_twenty-twenty.ensures at c.judge_value-3.ensures in
    by_standing a.p a.authority (λ e. 401 for every_profile ⦂ rule401 s key e ∷ []) (λ t. rw t at held-put) (λ t. rw t at held-put) (λ t. rw t at held-put)
    ⋙ by_standing a.p a.constraints (λ e. 402 for S ⦂ rule402 e ∷ []) (λ t. rw t at Filled-put) (λ t. rw t at Filled-put) (λ t. rw t at Filled-put)
    ⋙ by_standing a.p a.subject (λ e. 403 for every_profile ⦂ rule403 e ∷ []) (λ t. rw t at twenty-put) (λ t. rw t at twenty-put) (λ t. rw t at twenty-put)
