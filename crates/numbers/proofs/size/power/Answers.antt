-- `numbers::size::power` meets its contract. Assumes nothing.
use mathlib.Core.Path.{ap, ◌∙◌}
use Prim.Native.Nat.{ℕ, ◌%◌, ◌^◌}
use native.Mathlib.Omega.{arith}
use native.Mathlib.Nat.{one-mul, mod-eq_of_lt, lt_of_lt_of_le}
use lib.Pow.{pow-lt, pow_mono}
use Rattle.numbers.proofs.size.power.Goals as goal

pub returns : goal.returns
returns c = ap (λ (m : ℕ). m % 65536) (one-mul (2 ^ c.args.e)) ∙ mod-eq_of_lt (lt_of_lt_of_le (pow-lt c.requires) (pow_mono {i = 8} {j = 16} (omega arith)))
