-- `rules_values::identifiers::is_held_by` meets its contract. Assumes nothing.
use Rattle.rules_values.proofs.Laws.Identifiers.{held_by_none, held_by_lem}
use Rattle.rules_values.proofs.identifiers.is_held_by.Goals as goal

pub returns-in_default : goal.returns-in_default
returns-in_default c = let a = c.args in rw c.in_default.is (held_by_none a.s.now a.i.now a.v)

pub returns : goal.returns
returns c =
    let a = c.args in
    rw c.in-Some.is (held_by_lem a.s.now a.i.now a.v c.in-Some.identifier _ _ c.first_in-member.ensures c.same_contents.ensures)
