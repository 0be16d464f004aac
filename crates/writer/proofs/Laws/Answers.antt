-- The writer's answer, with the room that goes with it.
--     taken_only          blocks are answered only where no refusal applies
--     answered            an answer and its room are the whole answer
--     refused_nowhere     the place of every refusal is 0
-- Assumes nothing.
use mathlib.Core.Path.{◌≡◌, refl, sym, ap, ◌∙◌}
use mathlib.Core.Bool.{Bool, true, false, cond}
use mathlib.Core.List.{List}
use mathlib.Core.Logic.{◌≢◌}
use Prim.Native.Nat.{ℕ, ◌*◌, ◌≤◌}
use lib.Dec.{eqb, leb}
use lib.ListN.{length}
use borrow.Author.Tests.{eqb-false, leb-true}
use Rattle.std.specs.Prelude.{Result, Ok, Err}
use Rattle.writer.specs.Cutting.{blocks_of}
use Rattle.writer.specs.Values.{not_written_values, placing_values}
use Rattle.writer.specs.Answers.{by_room, by_admission, write_answer, room_written, write_room, Written}
use Rattle.writer.specs.declared.reasons.NotWritten.{NotWritten}
use Rattle.writer.specs.declared.reasons.NotWritten.TheVariants.{Inadmissible, NoNumber, NoRoom}
use Rattle.profiles.specs.declared.fields.Profile.{Profile}
use Rattle.lint.specs.Judging.{admission_of}
use Rattle.lint.proofs.Laws.Bounds.{inadmissible_nowhere}
use Rattle.blocks.specs.Record.{record_of, parts}
use Rattle.writer.proofs.Laws.Values.{write_values_lem}
use Rattle.lint.specs.declared.reasons.Inadmissible as Reason

-- no refusal applies, and the count is that of the parts
pub record Taken (admission : Result Profile Reason.Inadmissible) (number count room all : ℕ) : Type 0 where
  pub for : Profile
  pub admitted : admission ≡ Ok for
  pub numbered : number ≢ 0
  pub fitting : 512 * count ≤ room
  pub counted : count ≡ all

room_taken : (count all room : ℕ) → by_room all room ≡ Ok count → (512 * count ≤ room) × (count ≡ all)
room_taken count all room = go (leb (512 * all) room) refl
  where
    go : (b : Bool) → leb (512 * all) room ≡ b → cond b (Ok all) (Err NoRoom) ≡ Ok count → (512 * count ≤ room) × (count ≡ all)
    go true t e =
        let same : count ≡ all = cc e in
        (rw same (leb-true (512 * all) room t), same)
    go false t e = cc

admission_taken : (admission : Result Profile Reason.Inadmissible) (number count room all : ℕ) → by_admission admission number all room ≡ Ok count
    → Taken admission number count room all
admission_taken (Err r) number count room all e = cc
admission_taken (Ok p) number count room all e = go (eqb number 0) refl e
  where
    go : (b : Bool) → eqb number 0 ≡ b → cond b (Err NoNumber) (by_room all room) ≡ Ok count → Taken (Ok p) number count room all
    go true t e = cc
    go false t e =
        let f = room_taken count all room e in
        record { for = p; admitted = refl; numbered = eqb-false number 0 t; fitting = f.0; counted = f.1 }

module _ (number profile : ℕ) (certificate issuer room : List ℕ) where
  pub taken_only : (count : ℕ) → write_answer number profile certificate issuer room ≡ Ok count
      → Taken (admission_of (length certificate) (length issuer) profile) number count (length room) (parts (length (record_of profile certificate issuer)))
  unfolding write_answer
  taken_only count e =
      admission_taken (admission_of (length certificate) (length issuer) profile) number count (length room)
      (parts (length (record_of profile certificate issuer))) e

  pub answered : (r : Result ℕ NotWritten) (last : List ℕ) → write_answer number profile certificate issuer room ≡ r
      → last ≡ room_written r (blocks_of number (record_of profile certificate issuer)) room → Written number profile certificate issuer room r last
  unfolding write_room
  answered r last e b =
      record {
        told = sym e;
        values = ap placing_values (sym e) ∙ write_values_lem number profile certificate issuer room;
        bytes = rw e b;
      }

-- 1, 2 and 3 have no place, and 8 and 7 look into no side
pub refused_nowhere : (r : NotWritten) → (not_written_values r).place ≡ 0
refused_nowhere (Inadmissible r) = inadmissible_nowhere r
refused_nowhere NoNumber = refl
refused_nowhere NoRoom = refl
