-- Statements about answers as numbers: a caller takes them apart again, and loses nothing.
--     lint_back            the values of the linter's answer are read off its number
--     write_back           and those of the writer's
--     one_lint, one_write  any two answers that a contract here allows coincide (S11)
-- Assumes nothing.
use mathlib.Core.Path.{◌≡◌, refl, sym, subst, ◌∙◌}
use mathlib.Core.List.{List}
use mathlib.Core.Logic.{◌≢◌}
use Prim.Native.Nat.{ℕ, ◌+◌, ◌*◌, ◌^◌, ◌/◌, ◌%◌, ◌<◌}
use native.Mathlib.Omega.{arith}
use lib.ListN.{length}
use borrow.Author.Tests.{ne_eqb, le-leb, lt-leb}
use Rattle.std.specs.Prelude.{Result, Ok, Err}
use Rattle.export.specs.Packing.{packed_refusal, packed_values, number_in, side_in, values_in}
use Rattle.refusals.specs.Table.{refused, unrefused}
use Rattle.refusals.specs.declared.table.Values.{Values}
use Rattle.refusals.proofs.Laws.Table.{Tabled}
use Rattle.lint.specs.declared.reasons.Refusal.{Refusal}
use Rattle.lint.specs.Refusals.{refusal_values, answer_values}
use Rattle.lint.specs.Values.{lint_values}
use Rattle.lint.specs.Answers.{answer_of, room_of}
use Rattle.lint.proofs.Laws.Bounds.{refusal_low, count_fits}
use Rattle.lint.proofs.Laws.Values.{refusal_tabled, lint_values_lem}
use Rattle.writer.specs.declared.reasons.NotWritten.{NotWritten}
use Rattle.writer.specs.Values.{not_written_values, placing_values, write_values}
use Rattle.writer.specs.Answers.{write_answer, write_room}
use Rattle.writer.proofs.Laws.Answers.{taken_only, refused_nowhere}
use Rattle.writer.proofs.Laws.Values.{not_written_tabled, write_values_lem}

-- its number gives these values back
abbrev Back : Values → Type 0
Back v = values_in (packed_values v) ≡ v

-- ---- a refusal

module _ (number side place : ℕ) (n : number < 65536) (s : side < 65536) (p : place < 65536) where
  abbrev packed : ℕ
  packed = 2 ^ 63 + number * 2 ^ 32 + side * 2 ^ 16 + place

  high : packed / 2 ^ 32 ≡ 2 ^ 31 + number
  high = omega arith

  middle : packed / 2 ^ 16 ≡ 2 ^ 47 + number * 2 ^ 16 + side
  middle = omega arith

  low : packed % 2 ^ 16 ≡ place
  low = omega arith

  number_back : number_in packed ≡ number
  number_back = rw high (omega arith)

  side_back : side_in packed ≡ side
  side_back = rw middle (omega arith)

  refused_back : number ≢ 0 → Back (refused number side place)
  unfolding packed_refusal
  refused_back h = rw (ne_eqb number 0 h, le-leb (2 ^ 63) packed (omega arith), number_back, side_back, low)

tabled_back : (v : Values) → Tabled v → v.place < 8192 → Back v
tabled_back v t l =
    subst Back (sym t.countless)
    (refused_back v.number v.side v.place (omega (arith, t.number)) (omega (arith, t.side)) (omega arith) (λ z. omega (arith, t.numbered)))

-- ---- a count

count_back : (count : ℕ) → count < 2 ^ 63 → Back (unrefused count)
count_back count l = rw (lt-leb (2 ^ 63) count l)

-- ---- whole answers, of a call with a room that a slice can be: below 2^63 octets

pub lint_back : (certificate issuer : List ℕ) (profile : ℕ) (room : List ℕ) → length room < 2 ^ 63
    → values_in (packed_values (lint_values certificate issuer profile room)) ≡ lint_values certificate issuer profile room
lint_back certificate issuer profile room l =
    subst Back (lint_values_lem certificate issuer profile room) (go (answer_of certificate issuer profile room) refl)
  where
    go : (answer : Result ℕ Refusal) → answer_of certificate issuer profile room ≡ answer → Back (answer_values answer)
    go (Ok count) e = count_back count (omega (arith, count_fits certificate issuer profile room count e))
    go (Err r) e = tabled_back (refusal_values r) (refusal_tabled r) (refusal_low certificate issuer profile room r e)

pub write_back : (number profile : ℕ) (certificate issuer room : List ℕ) → length room < 2 ^ 63
    → values_in (packed_values (write_values number profile certificate issuer room)) ≡ write_values number profile certificate issuer room
write_back number profile certificate issuer room l =
    subst Back (write_values_lem number profile certificate issuer room) (go (write_answer number profile certificate issuer room) refl)
  where
    go : (answer : Result ℕ NotWritten) → write_answer number profile certificate issuer room ≡ answer → Back (placing_values answer)
    go (Ok count) e = count_back count (omega (arith, (taken_only number profile certificate issuer room count e).fitting))
    go (Err r) e = tabled_back (not_written_values r) (not_written_tabled r) (omega (arith, refused_nowhere r))

-- ---- one answer

module _ (certificate issuer room : List ℕ) (number profile : ℕ) where
  -- what the contracts allow: a number, and the room after the call
  abbrev LintedAs : ℕ → List ℕ → Type 0
  LintedAs n after = (n ≡ packed_values (lint_values certificate issuer profile room)) × (after ≡ room_of certificate issuer profile room)

  abbrev PlacedAs : ℕ → List ℕ → Type 0
  PlacedAs n after = (n ≡ packed_values (write_values number profile certificate issuer room)) × (after ≡ write_room number profile certificate issuer room)

  pub one_lint : (r r' : ℕ) (last last' : List ℕ) → LintedAs r last → LintedAs r' last' → (r ≡ r') × (last ≡ last')
  one_lint r r' last last' a b = (a.0 ∙ sym b.0, a.1 ∙ sym b.1)

  pub one_write : (r r' : ℕ) (last last' : List ℕ) → PlacedAs r last → PlacedAs r' last' → (r ≡ r') × (last ≡ last')
  one_write r r' last last' a b = (a.0 ∙ sym b.0, a.1 ∙ sym b.1)
