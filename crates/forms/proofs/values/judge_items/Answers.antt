-- `forms::values::judge_items` meets its contract. Assumes nothing.
use Rattle.forms.proofs.Laws.Values.{puts_good, puts_none}
use Rattle.forms.proofs.values.judge_items.Goals as goal

pub returns-then-v : goal.returns-then-v
returns-then-v c =
    let a = c.args in
    puts_good a.p a.rule a.v _ c.if-v.true c.judge_each.ensures

pub returns-else-v : goal.returns-else-v
returns-else-v c = let a = c.args in puts_none a.p a.rule a.v _ _ c.if-v.false
