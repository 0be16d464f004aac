-- The writer's complete answer: what it says, and what the room holds then. "The writer answers its number of blocks; room after them is untouched"
-- (document 01, "The deck").
use Rattle.std.specs.Prelude.{cond, List, ◌++◌, ◌≡◌, ℕ, ◌*◌, eqb, leb, length, drop, Err, Ok, Result}
use Rattle.writer.specs.declared.reasons.NotWritten.{NotWritten}
use Rattle.writer.specs.Cutting.{blocks_of, end_to_end}
use Rattle.writer.specs.Values.{placing_values, write_values}
use Rattle.writer.specs.declared.reasons.NotWritten.TheVariants.{Inadmissible, NoNumber, NoRoom}
use Rattle.lint.specs.Judging.{admission_of}
use Rattle.profiles.specs.declared.fields.Profile.{Profile}
use Rattle.blocks.specs.Record.{record_of, parts}
use Rattle.lint.specs.declared.reasons.Inadmissible as Reason

-- 7: "room is short when 512 a block exceed the lent length"
abbrev pub by_room : ℕ → ℕ → Result ℕ NotWritten
by_room count room = cond (leb (512 * count) room) (Ok count) (Err NoRoom)

-- 1, 2 and 3 as the linter has them, 8 "record number 0", then 7
abbrev pub by_admission : Result Profile Reason.Inadmissible → ℕ → ℕ → ℕ → Result ℕ NotWritten
by_admission (Err r) number count room = Err (Inadmissible r)
by_admission (Ok p) number count room = cond (eqb number 0) (Err NoNumber) (by_room count room)

unfoldable pub write_answer : ℕ → ℕ → List ℕ → List ℕ → List ℕ → Result ℕ NotWritten
write_answer number profile certificate issuer room =
    by_admission (admission_of (length certificate) (length issuer) profile) number (parts (length (record_of profile certificate issuer))) (length room)

-- the blocks and the rest of the room, or on refusal the room as it was
abbrev pub room_written : Result ℕ NotWritten → List (List ℕ) → List ℕ → List ℕ
room_written (Ok count) blocks room = end_to_end blocks ++ drop (512 * count) room
room_written (Err r) blocks room = room

unfoldable pub write_room : ℕ → ℕ → List ℕ → List ℕ → List ℕ → List ℕ
write_room number profile certificate issuer room =
    room_written (write_answer number profile certificate issuer room) (blocks_of number (record_of profile certificate issuer)) room

-- the whole of it
pub record Written (number profile : ℕ) (certificate issuer room : List ℕ) (r : Result ℕ NotWritten) (last : List ℕ) : Type 0 where
  pub told : r ≡ write_answer number profile certificate issuer room
  pub values : placing_values r ≡ write_values number profile certificate issuer room
  pub bytes : last ≡ write_room number profile certificate issuer room
