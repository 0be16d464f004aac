-- `report::has_room` meets its contract. Assumes nothing.
use Prim.Native.Nat.{◌*◌, ◌/◌}
use native.Mathlib.Omega.{arith}
use Rattle.report.specs.Entries.{width}
use Rattle.octets.proofs.Laws.Tests.{leb_same}
use Rattle.report.proofs.sink.has_room.Goals as goal

pub returns : goal.returns
returns c = let a = c.args in leb_same a.count (a.room / width) (width * a.count) a.room (λ l. omega arith) (λ l. omega arith)
