-- `report::entry_at` meets its contract. Assumes nothing.
use mathlib.Core.Path.{ap, ◌∙◌}
use Rattle.profiles.specs.Levels.{level_number}
use Rattle.report.proofs.Laws.Putting.{entry_made}
use Rattle.report.proofs.sink.entry_at.Goals as goal

pub returns : goal.returns
returns c =
    let a = c.args in
    entry_made a.rule a.h c.element-place.ensures (c.level_number.ensures ∙ ap level_number c.level_of-level.ensures)
