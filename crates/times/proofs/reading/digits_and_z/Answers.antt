-- `times::reading::digits_and_z` meets its contract. Assumes nothing.
use Rattle.times.specs.Reads.{digits_and_z}
use Rattle.octets.proofs.Laws.Octets.{octets_long}
use Rattle.times.proofs.reading.digits_and_z.Goals as goal

pub returns : goal.returns
unfolding digits_and_z
returns c = let a = c.args in let l = octets_long a.s.now a.body a.n in cc l
