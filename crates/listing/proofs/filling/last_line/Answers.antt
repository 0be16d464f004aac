-- `listing::filling::last_line` meets its contract. Assumes nothing.
use native.Mathlib.Omega.{arith}
use Rattle.listing.proofs.Laws.Whole.{last_whole}
use Rattle.listing.proofs.filling.last_line.Goals as goal

pub returns : goal.returns
returns c =
    let a = c.args in
    record {
      spelled = c.total_line.ensures;
      total_len_bound = last_whole a.p.records a.p.lost a.total (omega arith) (omega arith) (omega arith);
    }
