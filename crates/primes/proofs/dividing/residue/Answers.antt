use mathlib.Core.Path.{sym, ap, ◌∙◌}
use Prim.Native.Nat.{ℕ, ◌+◌, ◌*◌, ◌%◌, ◌^◌}
use native.Mathlib.Omega.{arith}
use Rattle.primes.proofs.Laws.Residues.{product, residue_below, start, more, done}
use Rattle.primes.proofs.dividing.residue.Goals as goal

pub nonzero_rem-a : goal.nonzero_rem-a
nonzero_rem-a c = c.requires.0

pub overflow_mul-b : goal.overflow_mul-b
overflow_mul-b c =
    let a = residue_below (2 ^ 32) c.args.m c.requires.0 c.requires.1 in
    let p = product (2 ^ 32 % c.args.m) (2 ^ 32 % c.args.m) (omega arith) a in
    record { fits = omega arith }

pub nonzero_rem-b : goal.nonzero_rem-b
nonzero_rem-b c = c.requires.0

pub overflow_add-i : goal.overflow_add-i
overflow_add-i c = record { fits = omega arith }

pub loop-i-init : goal.loop-i-init
loop-i-init c =
    let a = c.args in
    start a.s.now a.body a.end (a.body + c.minus.result % 4) c.small-r.result a.m
    (λ i. (c.shared_slice_known-1.given i).fits) (ap (λ (x : ℕ). a.body + x % 4) c.minus.ensures)
    c.small-r.ensures

pub step-r-requires : goal.step-r-requires
step-r-requires c =
    let a = 2 ^ 32 % c.args.m in
    (residue_below (2 ^ 32) c.args.m c.requires.0 c.requires.1, residue_below (a * a) c.args.m c.requires.0 c.requires.1, c.word_at.ensures.1)

pub overflow_add-i-in-loop-i : goal.overflow_add-i-in-loop-i
overflow_add-i-in-loop-i c = record { fits = omega arith }

pub loop-i-preserved : goal.loop-i-preserved
loop-i-preserved c =
    let a = c.args in
    let t = more a.s.now c.loop-i.i a.end c.loop-i.r a.m c.word_at.result c.step-r.result
    c.loop-i-test.true c.loop-i.invariant.1 c.word_at.ensures.0 c.step-r.ensures in
    (c.loop-i.invariant.0 ∙ t.0, t.1)

pub nonzero_rem-result : goal.nonzero_rem-result
nonzero_rem-result c = c.requires.0

pub returns : goal.returns
returns c =
    let a = c.args in
    sym (c.loop-i.invariant.0 ∙ done a.s.now c.loop-i.i a.end c.loop-i.r a.m c.loop-i-test.false)
