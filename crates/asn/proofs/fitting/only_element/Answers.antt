-- `asn::fitting::only_element` meets its contract: the tables are those that specs/Workings/Table.antt has. Assumes nothing.
use mathlib.Core.Path.{◌≡◌, ap, ◌∙◌}
use Rattle.asn.specs.Grammar.{Slots, follows}
use Rattle.asn.specs.Module.{value_of}
use Rattle.asn.specs.Workings.Table.{alone, slots_at}
use Rattle.der.specs.Header.{children_of}
use Rattle.asn.proofs.Laws.Tables.{rows, slots, roots, tables_right, roots_right, none_right}
use Rattle.asn.proofs.Laws.Roots.{root_row}
use Rattle.asn.proofs.fitting.only_element.Goals as goal

pub walk-requires : goal.walk-requires
unfolding rows slots
walk-requires c = tables_right

pub returns : goal.returns
unfolding roots
returns c =
    let a = c.args in
    let root : slots_at c.row_at-root.result ≡ alone (value_of a.slot) =
    root_row roots roots_right none_right a.slot c.row_at-root.result c.row_at-root.ensures in
    c.walk.ensures ∙ ap (λ (p : Slots). follows p a.s.now a.at (children_of a.s.now a.at a.end)) root
