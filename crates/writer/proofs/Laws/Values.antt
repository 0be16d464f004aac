-- The paper's values of the writer's answers.
--     write_values_lem         those of an answer are the table's
--     values_apart         two answers of the same values are the same
--     not_written_tabled   a refusal's number is 1 to 8, its side at most 2
-- Assumes nothing.
use mathlib.Core.Path.{◌≡◌, refl, sym, ap, ◌∙◌}
use mathlib.Core.Bool.{Bool, true, false, cond, not}
use mathlib.Core.List.{List, [], ◌∷◌}
use Prim.Native.Nat.{ℕ, ◌*◌}
use native.Mathlib.Omega.{arith}
use lib.Dec.{eqb, leb}
use lib.ListN.{length}
use Rattle.std.specs.Prelude.{Result, Ok, Err}
use Rattle.writer.specs.Values.{not_written_values, placing_values, blocks_table, block_count, write_values}
use Rattle.writer.specs.Answers.{by_admission, write_answer}
use Rattle.writer.specs.declared.reasons.NotWritten.{NotWritten}
use Rattle.writer.specs.declared.reasons.NotWritten.TheVariants.{Inadmissible, NoNumber, NoRoom}
use Rattle.refusals.specs.Table.{record_number_zero, too_little_room, on_neither, unrefused, refusal_row, first_that_applies}
use Rattle.refusals.specs.declared.table.Values.{Values}
use Rattle.refusals.proofs.Laws.Table.{Tabled, tabled}
use Rattle.lint.specs.Judging.{admission_of}
use Rattle.lint.specs.declared.reasons.Inadmissible.TheVariants.{CertificateLength, IssuerLength, UnknownProfile}
use Rattle.profiles.specs.declared.fields.Profile.{Profile}
use Rattle.lint.proofs.Laws.Values.{admission_values, admission_values_lem, inadmissible_from, inadmissible_tabled}
use Rattle.lint.specs.declared.reasons.Inadmissible as Reason

-- what is given once 1 to 3 do not apply
abbrev blocks_values : ℕ → ℕ → ℕ → Values
blocks_values number count room = first_that_applies (blocks_table number count room) (unrefused count)

by_admission_lem : (a : Result Profile Reason.Inadmissible) (number count room : ℕ)
    → placing_values (by_admission a number count room) ≡ admission_values a (λ p. blocks_values number count room)
by_admission_lem (Err r) number count room = refl
by_admission_lem (Ok p) number count room = go (eqb number 0) (leb (512 * count) room)
  where
    go : (zero enough : Bool)
        → placing_values (cond zero (Err NoNumber) (cond enough (Ok count) (Err NoRoom)))
        ≡ first_that_applies (refusal_row record_number_zero on_neither 0 zero ∷ refusal_row too_little_room on_neither 0 (not enough) ∷ []) (unrefused count)
    go true enough = refl
    go false true = refl
    go false false = refl

pub write_values_lem : (number profile : ℕ) (certificate issuer room : List ℕ)
    → placing_values (write_answer number profile certificate issuer room) ≡ write_values number profile certificate issuer room
unfolding write_answer write_values
write_values_lem number profile certificate issuer room =
    let count : ℕ = block_count profile certificate issuer in
    by_admission_lem (admission_of (length certificate) (length issuer) profile) number count (length room)
    ∙ admission_values_lem (length certificate) (length issuer) profile (λ p. blocks_values number count (length room))
    (λ asked. blocks_table number count (length room)) (λ asked. unrefused count) (λ p. refl)

-- ---- answers by their values

abbrev placing_from : Values → Result ℕ NotWritten
placing_from v =
    cond (eqb v.number 0) (Ok v.count)
    (cond (eqb v.number record_number_zero) (Err NoNumber)
    (cond (eqb v.number too_little_room) (Err NoRoom) (Err (Inadmissible (inadmissible_from v.number)))))

placing_from_lem : (p : Result ℕ NotWritten) → placing_from (placing_values p) ≡ p
placing_from_lem (Ok count) = refl
placing_from_lem (Err (Inadmissible CertificateLength)) = refl
placing_from_lem (Err (Inadmissible IssuerLength)) = refl
placing_from_lem (Err (Inadmissible UnknownProfile)) = refl
placing_from_lem (Err NoNumber) = refl
placing_from_lem (Err NoRoom) = refl

pub values_apart : (a b : Result ℕ NotWritten) → placing_values a ≡ placing_values b → a ≡ b
values_apart a b e = sym (placing_from_lem a) ∙ ap placing_from e ∙ placing_from_lem b

-- ---- bounds

pub not_written_tabled : (r : NotWritten) → Tabled (not_written_values r)
not_written_tabled (Inadmissible r) = inadmissible_tabled r
not_written_tabled NoNumber = tabled _ _ _ (omega arith) (omega arith) (omega arith)
not_written_tabled NoRoom = tabled _ _ _ (omega arith) (omega arith) (omega arith)
