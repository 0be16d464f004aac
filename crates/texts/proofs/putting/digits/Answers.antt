use mathlib.Core.Path.{sym, ◌∙◌}
use native.Mathlib.Omega.{arith}
use Rattle.texts.proofs.Laws.Digits.{begin, digit_on, digit_last, still_long}
use Rattle.texts.proofs.putting.digits.Goals as goal

pub loop-rest-init : goal.loop-rest-init
loop-rest-init c = begin _ _ c.requires c.ranges.x.fits

pub overflow_sub-i : goal.overflow_sub-i
overflow_sub-i c = c.loop-rest.invariant.some

pub bounds-space-i : goal.bounds-space-i
bounds-space-i c = let w = c.loop-rest.invariant in omega (arith, w.long, w.some, w.most)

pub loop-rest-preserved : goal.loop-rest-preserved
loop-rest-preserved c = digit_on c.loop-rest.invariant c.loop-rest-test.true

pub overflow_sub-i-2 : goal.overflow_sub-i-2
overflow_sub-i-2 c = c.loop-rest.invariant.some

pub bounds-space-i-2 : goal.bounds-space-i-2
bounds-space-i-2 c = let w = c.loop-rest.invariant in omega (arith, w.long, w.some, w.most)

pub shape_of-space : goal.shape_of-space
shape_of-space c = still_long c.loop-rest.invariant c.loop-rest.rest ∙ sym c.requires

pub returns : goal.returns
returns c = digit_last c.loop-rest.invariant c.loop-rest-test.false
