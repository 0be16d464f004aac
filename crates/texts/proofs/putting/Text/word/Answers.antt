use Rattle.texts.proofs.Laws.Putting.{grown_nothing, grown_next, grown_all}
use Rattle.texts.proofs.putting.Text.word.Goals as goal

pub loop-i-init : goal.loop-i-init
loop-i-init c = grown_nothing _

pub loop-i-preserved : goal.loop-i-preserved
loop-i-preserved c = grown_next c.args.text.now c.loop-i.i c.loop-i-test.true c.loop-i.invariant c.put.ensures

pub returns : goal.returns
returns c = grown_all c.args.text.now c.loop-i.i c.loop-i-test.false c.loop-i.invariant
