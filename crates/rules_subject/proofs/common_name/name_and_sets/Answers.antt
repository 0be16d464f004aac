-- `rules_subject::common_name::name_and_sets` meets its contract. Assumes nothing.
use Rattle.profiles.specs.Judged.{judged_in, row_of}
use Rattle.rules_subject.specs.CommonName.{is_unnamed, name_rows}
use Rattle.forms.proofs.Laws.Values.{good_at, by_standing}
use Rattle.report.proofs.Laws.Rows.{puts_asked}
use Rattle.report.proofs.Laws.Sinks.{◌⋙◌, by_rows}
use Rattle.rules_subject.proofs.common_name.name_and_sets.Goals as goal

pub returns : goal.returns
unfolding name_rows judged_in row_of
returns c =
    let a = c.args in
    let v = a.v in
    let cn = c.first-cn.result in
    let bad = is_unnamed a.s.now cn v.element in
    let first = by_rows (puts_asked a.p 120 v.good bad cn) (rw (c.is_unnamed-unnamed.ensures, c.holds.ensures) at c.judge.ensures) in
    let put = rw c.first-cn.ensures at (rw (good_at v bad cn) at first ⋙ c.judge_each.ensures ⋙ c.judge_each-2.ensures) in
    by_standing a.p v (name_rows a.s.now a.name) (λ t. rw t at put) (λ t. rw t at put) (λ t. rw t at put)
