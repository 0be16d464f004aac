-- `blocks::check::low_sum` meets its contract: the sum is that of the octets passed, each of which adds at most 255 * 255. Assumes nothing.
use mathlib.Core.Path.{◌≡◌}
use Prim.Native.Nat.{◌+◌, ◌%◌}
use Rattle.blocks.proofs.Laws.Weigh.{Summed}
use Rattle.blocks.proofs.check.low_sum.Given as goal

abbrev pub invariant-loop-b : goal.invariant-loop-b
invariant-loop-b l = (l.weight ≡ l.b-index + 1) × Summed (λ n. n % 256) 65025 l.body l.b-index l.sum
