-- `der::order::may_follow` meets its contract. Assumes nothing.
use Rattle.der.proofs.order.may_follow.Goals as goal

pub returns-then-set : goal.returns-then-set
returns-then-set c = rw (c.if-set.true, ← c.minus.ensures, ← c.minus-then-set.ensures) c.octets_le.ensures
