-- `octets::octets_from` meets its contract. Assumes nothing.
use mathlib.Core.Path.{◌≡◌, ap₂}
use Prim.Native.Nat.{◌+◌, ◌-◌}
use native.Mathlib.Omega.{arith}
use Rattle.octets.specs.Octets.{octets_from}
use Rattle.octets.specs.Stretches.{octets_left}
use Rattle.octets.proofs.stretches.octets_from.Goals as goal

pub returns-clause-left : goal.returns-clause-left
unfolding octets_left
returns-clause-left c =
    let a = c.args in
    let start : a.at + 0 ≡ a.at = omega arith in
    let size : a.n - 0 ≡ a.n = omega arith in
    ap₂ (λ k m. octets_from a.s.now k m) start size
