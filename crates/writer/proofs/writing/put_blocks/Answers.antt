use Prim.Native.Nat.{suc}
use native.Mathlib.Numerals.{add-one}
use native.Mathlib.Omega.{arith}
use Rattle.writer.proofs.Laws.Rooms.{room_step, room_length}
use Rattle.writer.proofs.writing.put_blocks.Goals as goal

pub loop-part-preserved : goal.loop-part-preserved
loop-part-preserved c =
    let a = c.args in
    let j = c.loop-part.part in
    let next =
    room_step a.number a.n j a.desk.now a.room.now (omega arith) (omega arith) c.loop-part.room c.put_block.new.block
    (omega arith) c.loop-part.invariant.2 c.put_block.ensures in
    rw add-one
    (omega arith, room_length a.number a.n (suc j) a.desk.now a.room.now (omega arith) (omega arith) _ (omega arith) (omega arith) next, next)
