-- `primes::dividing::divisible_by_none` meets its contract. Assumes nothing.
use mathlib.Core.Path.{refl}
use Rattle.primes.specs.Workings.Rows.{rows_ok}
use Rattle.primes.proofs.Laws.Primes.{table_right}
use Rattle.primes.proofs.dividing.divisible_by_none.Goals as goal

pub none_divides-requires : goal.none_divides-requires
unfolding rows_ok
none_divides-requires c = refl

pub returns : goal.returns
returns c = rw table_right c.none_divides.ensures
