-- `times::validity::within_days` meets its contract. Assumes nothing.
use mathlib.Core.Path.{ap}
use Prim.Native.Nat.{ℕ, ◌*◌}
use lib.Dec.{leb}
use Rattle.times.proofs.validity.within_days.Goals as goal

pub returns : goal.returns
returns c = let limit : ℕ = c.args.limit in ap (λ (n : ℕ). leb n (86400 * limit)) c.span.ensures
