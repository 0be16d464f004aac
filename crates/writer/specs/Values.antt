-- The paper's values for each case of the writer's answers, and those that a call is answered with: document 01's table "Refusals and their order" without
-- 4, 5 and 6, which "the writer skips".
use Rattle.std.specs.Prelude.{not, List, [], ◌∷◌, ◌++◌, ℕ, ◌*◌, eqb, leb, length, Err, Ok, Option, Result}
use Rattle.writer.specs.declared.reasons.NotWritten.{NotWritten}
use Rattle.writer.specs.declared.reasons.NotWritten.TheVariants.{Inadmissible, NoNumber, NoRoom}
use Rattle.refusals.specs.Table.{record_number_zero, too_little_room, on_neither, refused, unrefused, RefusalRow, refusal_row, first_that_applies}
use Rattle.refusals.specs.declared.table.Values.{Values}
use Rattle.lint.specs.Refusals.{inadmissible_values}
use Rattle.lint.specs.Values.{admission_table}
use Rattle.profiles.specs.declared.fields.Profile.{Profile}
use Rattle.profiles.specs.Fields.{asked_of}
use Rattle.blocks.specs.Record.{record_of, parts}

abbrev pub not_written_values : NotWritten → Values
not_written_values (Inadmissible r) = inadmissible_values r
not_written_values NoNumber = refused record_number_zero on_neither 0
not_written_values NoRoom = refused too_little_room on_neither 0

-- "the writer answers its number of blocks"
abbrev pub placing_values : Result ℕ NotWritten → Values
placing_values (Ok count) = unrefused count
placing_values (Err r) = not_written_values r

-- 8, then 7: "room is short when 512 a block exceed the lent length"
abbrev pub blocks_table : ℕ → ℕ → ℕ → List RefusalRow
blocks_table number count room =
    refusal_row record_number_zero on_neither 0 (eqb number 0)
    ∷ refusal_row too_little_room on_neither 0 (not (leb (512 * count) room))
    ∷ []

-- how many blocks a record takes
abbrev pub block_count : ℕ → List ℕ → List ℕ → ℕ
block_count profile certificate issuer = parts (length (record_of profile certificate issuer))

-- 1, 2 and 3 as the linter has them, then these
abbrev pub write_table : ℕ → ℕ → Option Profile → List ℕ → List ℕ → List ℕ → List RefusalRow
write_table number profile asked certificate issuer room =
    admission_table (length certificate) (length issuer) asked ++ blocks_table number (block_count profile certificate issuer) (length room)

unfoldable pub write_values : ℕ → ℕ → List ℕ → List ℕ → List ℕ → Values
write_values number profile certificate issuer room =
    first_that_applies (write_table number profile (asked_of profile) certificate issuer room) (unrefused (block_count profile certificate issuer))
