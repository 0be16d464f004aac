-- `blocks::check::check_of` meets its contract: 510 octets or fewer are taken. Assumes nothing.
use native.Mathlib.Omega.{arith}
use lib.ListN.{length-take}
use lib.Seq.{take_all}
use Rattle.blocks.proofs.check.check_of.Goals as goal

pub returns-then-block-lt510 : goal.returns-then-block-lt510
returns-then-block-lt510 c =
    let b = c.args.block.now in
    rw (take_all 510 b (omega arith)) c.check_body.ensures

pub slice_bounds-check_body-end : goal.slice_bounds-check_body-end
slice_bounds-check_body-end c = simp length-take (omega arith)

pub check_body-requires-2 : goal.check_body-requires-2
check_body-requires-2 c = simp length-take (omega arith)
