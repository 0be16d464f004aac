-- `primes::dividing::step` meets its contract. Assumes nothing.
use native.Mathlib.Omega.{arith}
use Rattle.primes.proofs.Laws.Residues.{step_parts}
use Rattle.primes.proofs.dividing.step.Goals as goal

pub overflow_mul-result : goal.overflow_mul-result
overflow_mul-result c = let p = step_parts c.args.r c.args.a c.args.b (omega arith) c.requires.0 c.requires.1 in record { fits = omega arith }

pub overflow_mul-result-2 : goal.overflow_mul-result-2
overflow_mul-result-2 c = let p = step_parts c.args.r c.args.a c.args.b (omega arith) c.requires.0 c.requires.1 in record { fits = omega arith }

pub overflow_add-result : goal.overflow_add-result
overflow_add-result c = let p = step_parts c.args.r c.args.a c.args.b (omega arith) c.requires.0 c.requires.1 in record { fits = omega arith }

pub overflow_add-result-2 : goal.overflow_add-result-2
overflow_add-result-2 c = let p = step_parts c.args.r c.args.a c.args.b (omega arith) c.requires.0 c.requires.1 in record { fits = omega arith }
