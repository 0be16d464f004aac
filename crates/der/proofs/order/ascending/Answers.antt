use Rattle.der.proofs.Laws.Order.{ascend_begins}
use Rattle.der.proofs.order.ascending.Goals as goal

pub loop-member-init : goal.loop-member-init
loop-member-init c =
    let a = c.args in
    rw (c.into_iter-member-iterator.ensures.into_iter_gives, c.children_of-member-items.ensures.left, c.missing-before.ensures) (ascend_begins a.s.now a.at a.end)
