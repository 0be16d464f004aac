-- Statements about the writer's whole answer.
--     one_answer          S11: any two answers that the contract allows coincide, and so do the rooms
--     refused_first       refusals 1, 2 and 3 are the linter's
--     refused_number      then 8: "record number 0"
--     refused_room        then 7: "room is short when 512 a block exceed the lent length"
--     taken               what none of them refuses is written: as many blocks as the record has parts
--     room_kept           a refused call leaves the room as it was
--     rest_kept           the record's blocks stand at the front of the room, "room after them is untouched", and no octet is added or lost
-- Assumes nothing.
use mathlib.Core.Path.{◌≡◌, sym, ap, ◌∙◌}
use mathlib.Core.List.{List}
use mathlib.Core.Logic.{◌≢◌}
use Prim.Native.Nat.{ℕ, ◌*◌, ◌^◌, ◌≤◌, ◌<◌}
use native.Mathlib.Omega.{arith}
use lib.ListN.{length, take, drop, length-append, length-drop}
use lib.Seq.{take_at, drop_at}
use borrow.Author.Tests.{eq-eqb, ne_eqb, le-leb, lt-leb}
use Rattle.std.specs.Prelude.{Result, Ok, Err}
use Rattle.writer.specs.Cutting.{blocks_of, end_to_end}
use Rattle.writer.specs.Answers.{write_answer, write_room, Written}
use Rattle.writer.specs.declared.reasons.NotWritten.{NotWritten}
use Rattle.writer.specs.declared.reasons.NotWritten.TheVariants.{Inadmissible, NoNumber, NoRoom}
use Rattle.profiles.specs.declared.fields.Profile.{Profile}
use Rattle.lint.specs.Judging.{admission_of}
use Rattle.lint.proofs.Laws.Accepted.{admitted_certificate, admitted_issuer}
use Rattle.blocks.specs.Record.{record_of, parts}
use Rattle.blocks.proofs.Laws.Record.{record_length_lem}
use Rattle.writer.proofs.Laws.Cutting.{blocks_length}
use Rattle.writer.proofs.Laws.Answers.{taken_only}
use Rattle.lint.specs.declared.reasons.Inadmissible as Reason

-- ---- S11

pub one_answer : {number profile : ℕ} {certificate issuer room last last' : List ℕ} {r r' : Result ℕ NotWritten}
    → Written number profile certificate issuer room r last → Written number profile certificate issuer room r' last' → (r ≡ r') × (last ≡ last')
one_answer a b = (a.told ∙ sym b.told, a.bytes ∙ sym b.bytes)

module _ (number profile : ℕ) (certificate issuer room : List ℕ) where
  -- ---- the order of refusals: "the first that applies"

  pub refused_first : (r : Reason.Inadmissible) → admission_of (length certificate) (length issuer) profile ≡ Err r
      → write_answer number profile certificate issuer room ≡ Err (Inadmissible r)
  unfolding write_answer
  refused_first r e = rw e

  module _ (p : Profile) (e : admission_of (length certificate) (length issuer) profile ≡ Ok p) where
    pub refused_number : number ≡ 0 → write_answer number profile certificate issuer room ≡ Err NoNumber
    unfolding write_answer
    refused_number z = rw (e, eq-eqb number 0 z)

    module _ (h : number ≢ 0) where
      pub refused_room : length room < 512 * parts (length (record_of profile certificate issuer))
          → write_answer number profile certificate issuer room ≡ Err NoRoom
      unfolding write_answer
      refused_room l = rw (e, ne_eqb number 0 h, lt-leb (512 * parts (length (record_of profile certificate issuer))) (length room) l)

      pub taken : 512 * parts (length (record_of profile certificate issuer)) ≤ length room
          → write_answer number profile certificate issuer room ≡ Ok (parts (length (record_of profile certificate issuer)))
      unfolding write_answer
      taken l = rw (e, ne_eqb number 0 h, le-leb (512 * parts (length (record_of profile certificate issuer))) (length room) l)

  -- ---- the room

  -- "lent memory unchanged"
  pub room_kept : (r : NotWritten) → write_answer number profile certificate issuer room ≡ Err r
      → write_room number profile certificate issuer room ≡ room
  unfolding write_room
  room_kept r e = rw e

  pub record Left (count : ℕ) (last : List ℕ) : Type 0 where
    pub front : take (512 * count) last ≡ end_to_end (blocks_of number (record_of profile certificate issuer))
    pub rest : drop (512 * count) last ≡ drop (512 * count) room
    pub as_long : length last ≡ length room

  pub rest_kept : (count : ℕ) → number < 2 ^ 32 → write_answer number profile certificate issuer room ≡ Ok count
      → Left count (write_room number profile certificate issuer room)
  unfolding write_room
  rest_kept count hnumber e =
      let t = taken_only number profile certificate issuer room count e in
      let bs : List ℕ = end_to_end (blocks_of number (record_of profile certificate issuer)) in
      let short : length (record_of profile certificate issuer) < 65536 =
      omega (
        arith,
        record_length_lem profile certificate issuer,
        (admitted_certificate _ _ _ t.for t.admitted).1,
        (admitted_issuer _ _ _ t.for t.admitted).1,
      ) in
      let long : length bs ≡ 512 * count =
      blocks_length (record_of profile certificate issuer) number hnumber short ∙ ap (λ (n : ℕ). 512 * n) (sym t.counted) in
      rw e
      (record {
        front = take_at bs (drop (512 * count) room) (512 * count) long;
        rest = drop_at bs (drop (512 * count) room) (512 * count) long;
        as_long = length-append bs (drop (512 * count) room) ∙ simp length-drop (omega (arith, long, t.fitting));
      })
