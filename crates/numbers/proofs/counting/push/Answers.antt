-- `numbers::counting::push` meets its contract. Assumes nothing.
use Prim.Native.Nat.{◌^◌}
use native.Mathlib.Omega.{arith}
use borrow.Author.Tests.{lt-ltb, le-ltb}
use Rattle.numbers.proofs.counting.push.Goals as goal

pub returns-then-n-lt16777216 : goal.returns-then-n-lt16777216
returns-then-n-lt16777216 c = (rw (lt-ltb c.args.n (2 ^ 24) c.if-n-lt16777216.true, c.from.ensures), omega arith)

pub returns : goal.returns
returns c = (rw (le-ltb c.args.n (2 ^ 24) c.if-n-lt16777216.false), omega arith)
