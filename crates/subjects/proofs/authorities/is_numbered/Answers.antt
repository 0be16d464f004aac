-- `subjects::authorities::is_numbered` meets its contract. Assumes nothing.
use Rattle.std.proofs.Common.{◌+◌, length, arith}
use Rattle.octets.proofs.Laws.Stretches.{stretch_far}
use Rattle.subjects.proofs.Laws.Authorities.{numbered_read}
use Rattle.subjects.proofs.authorities.is_numbered.Goals as goal

pub returns : goal.returns
returns c =
    let a = c.args in
    let behind = stretch_far a.s.now (a.body + length a.words.now) c.saturating_add.result c.minus.result (omega arith) c.saturating_add.ensures in
    let number = rw (behind, c.minus.ensures) at c.is_number_from_one.ensures in
    numbered_read a.s.now a.body a.n a.words.now c.equals-begins.result c.is_number_from_one.result c.equals-begins.ensures number
