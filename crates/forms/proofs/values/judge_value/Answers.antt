-- `forms::values::judge_value` meets its contract. Assumes nothing.
use Rattle.forms.proofs.Laws.Values.{good_at}
use Rattle.forms.proofs.values.judge_value.Goals as goal

pub returns : goal.returns
returns c =
    let a = c.args in
    rw (← good_at a.v a.bad a.v.holder) c.judge.ensures
