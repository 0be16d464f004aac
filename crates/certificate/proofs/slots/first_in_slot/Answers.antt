-- `certificate::slots::first_in_slot` meets its contract. Assumes nothing.
use lib.Dec.{eqb}
use borrow.Author.Tests.{tests}
use Rattle.std.proofs.Common.{rules}
use Rattle.std.proofs.lemmas.Iterator.Search.{find_from_yields_List}
use Rattle.certificate.specs.Extensions.{slot_of}
use Rattle.certificate.specs.Slots.{first_in_slot}
use Rattle.der.proofs.Laws.Chains.{walked, found}
use Rattle.certificate.proofs.slots.first_in_slot.Goals as goal

pub returns : goal.returns
unfolding first_in_slot
returns c =
    let a = c.args in
    rw (c.unwrap_or.ensures, c.missing.ensures) (found (λ h. eqb (slot_of a.s.now h) a.slot) a.list.end _ c.find.result
    (find_from_yields_List (λ h. eqb (slot_of a.s.now h) a.slot) _ _ c.find.result c.find.ensures.ran (walked _ c.members_in.ensures.left)
    (λ x b q k. search (rules, tests))))
