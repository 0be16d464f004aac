-- `rules_fields::algorithms::algorithms_and_name` meets its contract. Assumes nothing.
use Rattle.profiles.specs.Judged.{judged_in, row_of}
use Rattle.report.proofs.Laws.Sinks.{◌⋙◌}
use Rattle.rules_fields.specs.Algorithms.{signature_rows}
use Rattle.rules_fields.proofs.algorithms.algorithms_and_name.Goals as goal

pub returns : goal.returns
unfolding signature_rows judged_in row_of
returns c =
    rw c.is_sha256_rsa-inner.ensures at c.judge.ensures
    ⋙ rw c.is_sha256_rsa-outer.ensures at c.judge-2.ensures
    ⋙ rw c.same_element-differ.ensures at c.judge-3.ensures
    ⋙ rw c.same_element-stranger.ensures at c.judge-4.ensures
