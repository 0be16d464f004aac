-- `rules_fields::period::validity` meets its contract. Assumes nothing.
use Rattle.profiles.specs.Judged.{judged_in, row_of}
use Rattle.report.proofs.Laws.Sinks.{◌⋙◌, sink_same_rule}
use Rattle.rules_fields.specs.Period.{validity_rows}
use Rattle.rules_fields.proofs.period.validity.Goals as goal

pub returns : goal.returns
unfolding validity_rows judged_in row_of
returns c =
    rw (← c.limit_of.ensures, ← c.is_too_long-too_long.ensures, ← c.reversed-reversed.ensures, ← c.early_general-early_end.ensures)
    (rw (← c.early_general-early_start.ensures)
    (sink_same_rule c.judge.ensures c.judge-2.ensures ⋙ c.judge-3.ensures ⋙ c.judge-4.ensures))
