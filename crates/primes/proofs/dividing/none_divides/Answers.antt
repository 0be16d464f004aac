use mathlib.Core.Path.{refl, sym, ◌∙◌}
use native.Mathlib.Omega.{arith}
use native.Mathlib.Nat.{mod-one}
use Rattle.numbers.specs.Numbers.{number}
use Rattle.primes.proofs.Laws.Residues.{row, free_bad, free_good, free_done}
use Rattle.primes.proofs.dividing.none_divides.Goals as goal

pub loop-k-init : goal.loop-k-init
loop-k-init c =
    let a = c.args in
    (refl, sym (mod-one (number a.s.now a.body a.end)))

pub offset_bounds-products-k : goal.offset_bounds-products-k
offset_bounds-products-k c = record { fits = omega (arith, (row c.args.primes.now c.args.products.now c.requires c.loop-k.k c.loop-k-test.true).0) }

pub bounds-products-k : goal.bounds-products-k
bounds-products-k c = (row c.args.primes.now c.args.products.now c.requires c.loop-k.k c.loop-k-test.true).0

pub overflow_cast-m : goal.overflow_cast-m
overflow_cast-m c = record { fits = omega (arith, c.shared_slice_known-in-loop-k-1.given c.loop-k.k) }

pub renew-r-requires : goal.renew-r-requires
renew-r-requires c =
    let w = (row c.args.primes.now c.args.products.now c.requires c.loop-k.k c.loop-k-test.true).1 in
    (w.least, w.most, c.loop-k.invariant.1)

pub overflow_cast-primes : goal.overflow_cast-primes
overflow_cast-primes c = record { fits = omega (arith, c.shared_slice_known-in-loop-k-2-1.given c.loop-k.k) }

pub nonzero_rem-r : goal.nonzero_rem-r
nonzero_rem-r c = (row c.args.primes.now c.args.products.now c.requires c.loop-k.k c.loop-k-test.true).1.some

pub returns-then-r-primes-eq0 : goal.returns-then-r-primes-eq0
returns-then-r-primes-eq0 c =
    let a = c.args in
    sym (c.loop-k.invariant.0 ∙ free_bad a.primes.now a.products.now c.requires c.loop-k.k (number a.s.now a.body a.end)
    c.renew-r.result c.loop-k-test.true c.renew-r.ensures c.if-r-primes-eq0.true)

pub loop-k-preserved : goal.loop-k-preserved
loop-k-preserved c =
    let a = c.args in (
      c.loop-k.invariant.0 ∙ free_good a.primes.now a.products.now c.requires c.loop-k.k (number a.s.now a.body a.end)
          c.renew-r.result c.loop-k-test.true c.renew-r.ensures c.if-r-primes-eq0.false,
      c.renew-r.ensures,
    )

pub returns : goal.returns
returns c =
    let a = c.args in
    sym (c.loop-k.invariant.0 ∙ free_done a.primes.now c.loop-k.k (number a.s.now a.body a.end) c.loop-k-test.false)
