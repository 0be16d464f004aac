-- `primes::dividing::renew` meets its contract. Assumes nothing.
use mathlib.Core.Path.{sym, ap, ◌∙◌}
use Prim.Native.Nat.{ℕ, ◌%◌}
use Rattle.numbers.specs.Numbers.{number}
use Rattle.primes.proofs.dividing.renew.Goals as goal

pub returns-then-m-last : goal.returns-then-m-last
returns-then-m-last c =
    let a = c.args in
    c.requires.2 ∙ ap (λ (x : ℕ). number a.s.now a.body a.end % x) (sym c.if-m-last.true)
