-- `certificate::slot_of` meets its contract. Assumes nothing.
use mathlib.Core.Path.{ap, ◌∙◌}
use Rattle.certificate.specs.Extensions.{slot_for}
use Rattle.der.specs.Members.{first_in}
use Rattle.certificate.proofs.Laws.Members.{contents_read}
use Rattle.certificate.proofs.extensions.slot_of.Goals as goal

pub returns : goal.returns
returns c =
    let a = c.args in
    c.slot_for.ensures ∙ ap slot_for (contents_read a.s.now (first_in a.s.now a.h) _ _ c.first_in-i.ensures c.minus.ensures)
