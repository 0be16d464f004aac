-- `rules_key::algorithm::algorithm_rules` meets its contract. Assumes nothing.
use Rattle.profiles.specs.Judged.{judged_in, row_of}
use Rattle.rules_key.specs.Algorithm.{algorithm_rows}
use Rattle.report.proofs.Laws.Sinks.{◌⋙◌}
use Rattle.rules_key.proofs.algorithm.algorithm_rules.Goals as goal

pub returns : goal.returns
unfolding algorithm_rows judged_in row_of
returns c =
    rw (← c.allows_kind-other.ensures, ← c.lacks_null-null.ensures, ← c.lacks_curve-curve.ensures)
    (c.judge.ensures ⋙ c.judge-2.ensures ⋙ c.judge-3.ensures)
