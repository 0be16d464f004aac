-- The blocks that the writer answers lie in the room.
use Rattle.std.specs.Prelude.{Ok}
use Rattle.std.proofs.Common.{◌≡◌, ◌*◌, ◌≤◌, ℕ, List, sym, arith, replicate, length-take-le}
use Rattle.std.proofs.lemmas.List.{length-replicate}
use Rattle.writer.specs.Answers.{write_answer}
use Rattle.writer.proofs.Laws.Answers.{taken_only}
use Rattle.deckpack.proofs.pack.Goals as goal

blocks_fit : (number profile count : ℕ) (certificate issuer : List ℕ)
    → Ok count ≡ write_answer number profile certificate issuer (replicate 16896 0) → 512 * count ≤ 16896
blocks_fit number profile count certificate issuer e =
    let t = taken_only number profile certificate issuer (replicate 16896 0) count (sym e) in
    omega (arith, t.fitting, length-replicate {A = ℕ} 16896 0)

pub overflow_mul-room : goal.overflow_mul-room
overflow_mul-room g c = omega (arith, blocks_fit _ _ _ _ _ c.in-Ok.ensures.told)

pub slice_bounds-room-end : goal.slice_bounds-room-end
slice_bounds-room-end g c = omega (arith, blocks_fit _ _ _ _ _ c.in-Ok.ensures.told, c.write_record-answer.auto.room)

pub slice_bounds-hand_out-end : goal.slice_bounds-hand_out-end
slice_bounds-hand_out-end g c = sym (length-take-le _ _ (omega (arith, blocks_fit _ _ _ _ _ c.in-Ok.ensures.told, c.write_record-answer.auto.room)))
