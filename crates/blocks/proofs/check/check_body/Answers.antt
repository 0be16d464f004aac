-- `blocks::check::check_body` meets its contract: the two sums make the weighted one. Assumes nothing.
use mathlib.Core.Path.{◌≡◌, ap, ◌∙◌}
use Prim.Native.Nat.{ℕ, ◌+◌, ◌*◌, ◌-◌, ◌%◌}
use native.Mathlib.Omega.{arith}
use lib.ListN.{length, take, drop, length-drop}
use lib.Seq.{take_all}
use Rattle.blocks.specs.Block.{weigh, check_of}
use Rattle.blocks.proofs.Laws.Weigh.{weigh_short, weigh_long}
use Rattle.blocks.proofs.check.check_body.Goals as goal

pub returns-then-body-le255 : goal.returns-then-body-le255
unfolding check_of
returns-then-body-le255 c =
    let body = c.args.body.now in
    (ap (λ (n : ℕ). (1 + n) % 65521) (c.low_sum-low.ensures.0 ∙ weigh_short body (omega arith)), omega arith)

pub returns : goal.returns
unfolding check_of
returns c =
    let body = c.args.body.now in
    let all : take (length body - 255) (drop 255 body) ≡ drop 255 body = take_all (length body - 255) (drop 255 body) (simp length-drop (omega arith)) in
    let low = c.low_sum-low.ensures.0 in
    let high : weigh 1 (drop 255 body) ≡ weigh 0 (drop 255 body) + c.plain_sum-high.result = rw all at c.plain_sum-high.ensures in
    let sum : 1 + c.low_sum-low.result + 256 * c.plain_sum-high.result ≡ 1 + weigh 1 body =
    omega (arith, low, weigh_long body c.plain_sum-high.result (omega arith) high) in
    (ap (λ (n : ℕ). n % 65521) sum, omega arith)
