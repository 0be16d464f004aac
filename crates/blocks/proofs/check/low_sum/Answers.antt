use mathlib.Core.Path.{◌≡◌, ap₂, ◌∙◌}
use Prim.Native.Nat.{ℕ, ◌+◌, ◌*◌, ◌%◌, ◌≤◌}
use native.Mathlib.Nat.{mul-le-mul}
use native.Mathlib.Omega.{arith}
use Rattle.blocks.proofs.Laws.Weigh.{sum_next, sum_all, low_parts}
use Rattle.blocks.proofs.check.low_sum.Goals as goal

pub loop-b-preserved : goal.loop-b-preserved
loop-b-preserved c =
    let small : c.loop-b.weight % 256 * c.from.result ≤ 65025 = mul-le-mul {n₂ = 255} {m₂ = 255} (omega arith) (omega (arith, c.from.ensures)) in
    let body = c.args.body.now in
    let w : c.loop-b.weight ≡ 1 + c.loop-b.b-index = omega arith in
    (omega arith, sum_next (λ n. n % 256) _ body c.loop-b.invariant.1 _ (omega arith) (ap₂ (λ (n x : ℕ). n % 256 * x) w c.from.ensures) small)

pub returns : goal.returns
returns c =
    let body = c.args.body.now in
    (sum_all (λ n. n % 256) _ body c.loop-b.invariant.1 (omega arith) ∙ low_parts body (omega arith), omega arith)

pub overflow_mul-sum : goal.overflow_mul-sum
overflow_mul-sum c = let small : c.loop-b.weight % 256 * c.from.result ≤ 65025 = mul-le-mul {n₂ = 255} {m₂ = 255} (omega arith) (omega (arith, c.from.ensures)) in
    omega (arith, small)

pub overflow_add-sum : goal.overflow_add-sum
overflow_add-sum c = let small : c.loop-b.weight % 256 * c.from.result ≤ 65025 = mul-le-mul {n₂ = 255} {m₂ = 255} (omega arith) (omega (arith, c.from.ensures)) in
    omega (arith, small)
