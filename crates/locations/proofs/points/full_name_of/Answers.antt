-- `locations::full_name_of` meets its contract. Assumes nothing.
use mathlib.Core.Path.{◌∙◌}
use Rattle.locations.proofs.Laws.Points.{point_full, point_none}
use Rattle.locations.proofs.points.full_name_of.Goals as goal

pub returns-then-name-full : goal.returns-then-name-full
returns-then-name-full c =
    let a = c.args in
    point_full a.s.now a.point c.first_in-name.result c.first_in-full.result c.first_in-name.ensures
    c.first_in-full.ensures c.if-name-full.true

pub returns : goal.returns
returns c =
    let a = c.args in
    c.missing.ensures ∙ point_none a.s.now a.point c.first_in-name.result c.first_in-full.result c.first_in-name.ensures
    c.first_in-full.ensures c.if-name-full.false
