-- Number, side and place in one number.
--     lint_packable, write_packable     the values of an answer have room there: the paper's numbers are at most 8, its sides at most 2, its places
--                                       below 8,192
--     packed_count, packed_by           the number of an answer that is no refusal, and of one that is
-- Assumes nothing.
use mathlib.Core.Path.{◌≡◌, refl, subst}
use mathlib.Core.List.{List}
use mathlib.Core.Logic.{◌≢◌}
use Prim.Native.Nat.{ℕ, ◌+◌, ◌*◌, ◌^◌, ◌<◌}
use native.Mathlib.Omega.{arith}
use borrow.Author.Tests.{eq-eqb, ne_eqb}
use Rattle.std.specs.Prelude.{Result, Ok, Err}
use Rattle.export.specs.Packing.{packed_refusal, packed_values}
use Rattle.export.specs.Workings.Packing.{Packable}
use Rattle.refusals.specs.declared.table.Values.{Values}
use Rattle.refusals.proofs.Laws.Table.{Tabled}
use Rattle.lint.specs.declared.reasons.Refusal.{Refusal}
use Rattle.lint.specs.Refusals.{refusal_values, answer_values}
use Rattle.lint.specs.Values.{lint_values}
use Rattle.lint.specs.Answers.{answer_of}
use Rattle.lint.proofs.Laws.Bounds.{refusal_low}
use Rattle.lint.proofs.Laws.Values.{refusal_tabled, lint_values_lem}
use Rattle.writer.specs.declared.reasons.NotWritten.{NotWritten}
use Rattle.writer.specs.Values.{not_written_values, placing_values, write_values}
use Rattle.writer.specs.Answers.{write_answer}
use Rattle.writer.proofs.Laws.Answers.{refused_nowhere}
use Rattle.writer.proofs.Laws.Values.{not_written_tabled, write_values_lem}

-- ---- what has room

tabled_packable : (v : Values) → Tabled v → v.place < 8192 → Packable v
tabled_packable v t l = record { number = omega (arith, t.number); side = omega (arith, t.side); place = omega arith }

pub lint_packable : (certificate issuer : List ℕ) (profile : ℕ) (room : List ℕ) → Packable (lint_values certificate issuer profile room)
lint_packable certificate issuer profile room =
    subst Packable (lint_values_lem certificate issuer profile room) (go (answer_of certificate issuer profile room) refl)
  where
    go : (answer : Result ℕ Refusal) → answer_of certificate issuer profile room ≡ answer → Packable (answer_values answer)
    go (Ok count) e = record { number = omega arith; side = omega arith; place = omega arith }
    go (Err r) e = tabled_packable (refusal_values r) (refusal_tabled r) (refusal_low certificate issuer profile room r e)

pub write_packable : (number profile : ℕ) (certificate issuer room : List ℕ) → Packable (write_values number profile certificate issuer room)
write_packable number profile certificate issuer room =
    subst Packable (write_values_lem number profile certificate issuer room) (go (write_answer number profile certificate issuer room))
  where
    go : (answer : Result ℕ NotWritten) → Packable (placing_values answer)
    go (Ok count) = record { number = omega arith; side = omega arith; place = omega arith }
    go (Err r) = tabled_packable (not_written_values r) (not_written_tabled r) (omega (arith, refused_nowhere r))

-- ---- the number

module _ (v : Values) where
  pub packed_count : v.number ≡ 0 → v.count ≡ packed_values v
  packed_count z = rw (eq-eqb v.number 0 z)

  pub packed_by : v.number ≢ 0 → 2 ^ 63 + v.number * 2 ^ 32 + v.side * 2 ^ 16 + v.place ≡ packed_values v
  unfolding packed_refusal
  packed_by h = rw (ne_eqb v.number 0 h)
