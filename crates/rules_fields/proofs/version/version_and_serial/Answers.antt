-- `rules_fields::version::version_and_serial` meets its contract. Assumes nothing.
use Rattle.profiles.specs.Judged.{judged_in, row_of}
use Rattle.report.proofs.Laws.Sinks.{◌⋙◌}
use Rattle.rules_fields.specs.Version.{version_rows}
use Rattle.rules_fields.proofs.version.version_and_serial.Goals as goal

pub returns : goal.returns
unfolding version_rows judged_in row_of
returns c =
    rw (← c.is_above_zero-negative.ensures, ← c.is_v3-old.ensures, ← c.version_place-place.ensures)
    (rw (← c.serial_length-length.ensures) (c.judge.ensures ⋙ c.judge-2.ensures ⋙ c.judge-3.ensures ⋙ c.judge-4.ensures))
