-- `octets::reading::within` meets its contract. Assumes nothing.
use mathlib.Core.Path.{sym}
use Prim.Native.Nat.{◌+◌, ◌-◌}
use native.Mathlib.Omega.{arith}
use borrow.Author.Tests.{lt-leb}
use Rattle.octets.proofs.Laws.Tests.{leb_same}
use Rattle.octets.proofs.reading.within.Goals as goal

pub returns-then-a-end : goal.returns-then-a-end
returns-then-a-end c = let a = c.args in
    leb_same a.n (a.end - a.a) (a.a + a.n) a.end (λ h. omega arith) (λ h. omega arith)

pub returns-else-a-end : goal.returns-else-a-end
returns-else-a-end c = let a = c.args in sym (lt-leb (a.a + a.n) a.end (omega arith))
