-- Demand 1 (document 00): "Every call ends on every input. Bytes that are not a certificate, an unknown profile, a wrong length, a record number of zero or
-- too little room get the numbered refusal and place in the rules, and no lent byte is changed by a refusal."
--
-- That every call ends is what the checker shows of every function before it builds one. Here: of any answer r, and any room `last` after the call, that
-- the contract of the linter (`Answered`) or of the writer (`Written`) allows.
use Rattle.std.specs.Prelude.{true, false, List, [], ◌∷◌, ◌++◌, ◌≡◌, ℕ, length, Err, Result}
use Rattle.refusals.specs.Table.{refused, unrefused, RefusalRow, first_that_applies}
use Rattle.refusals.specs.declared.table.Values.{Values}
use Rattle.profiles.specs.Fields.{asked_of}
use Rattle.lint.specs.Refusals.{answer_values}
use Rattle.lint.specs.Values.{found_under, lint_table}
use Rattle.lint.specs.Answers.{Answered}
use Rattle.lint.specs.Statements.{WithinSide}
use Rattle.lint.specs.declared.reasons.Refusal.{Refusal}
use Rattle.writer.specs.Values.{placing_values, block_count, write_table}
use Rattle.writer.specs.Answers.{Written}
use Rattle.writer.specs.declared.reasons.NotWritten.{NotWritten}

-- ---- The table of refusals is `lint_table` (crates/lint/specs/Values.antt) and, for the writer, `write_table` (crates/writer/specs/Values.antt), row by row as
-- ---- document 01 has it.

-- none of these rows applies
abbrev pub NoneApplies : List RefusalRow → Type 0
NoneApplies [] = Unit {0}
NoneApplies (r ∷ rs) = (r.applies ≡ false) × NoneApplies rs

-- "Given exactly when", in both directions, of a row with those above it: the answer has its number and side exactly if it applies and none above it does
pub record GivenExactly (values : Values) (above : List RefusalRow) (r : RefusalRow) : Type 0 where
  pub when : (r.applies ≡ true) × NoneApplies above → values ≡ refused r.number r.side r.place
  pub only : values.number ≡ r.number → values.side ≡ r.side → (r.applies ≡ true) × NoneApplies above

-- ---- the statement

-- an answer's values by a table, and the rows of the table each given exactly when it says
pub record ByTable (table : List RefusalRow) (otherwise values : Values) : Type 0 where
  pub first : values ≡ first_that_applies table otherwise
  pub exactly : (above below : List RefusalRow) (r : RefusalRow) → table ≡ above ++ (r ∷ below) → GivenExactly values above r

-- "get the numbered refusal and place in the rules, and no lent byte is changed by a refusal": the linter's answer. Certificate and issuer are lent to be read.
pub record LinterAnswers (certificate issuer : List ℕ) (profile : ℕ) (room : List ℕ) (r : Result ℕ Refusal) (last : List ℕ) : Type 0 where
  pub tabled :
      ByTable (lint_table certificate issuer (asked_of profile) room) (unrefused (length (found_under (asked_of profile) certificate issuer))) (answer_values r)
  -- "A refusal's place is a start within its side": the place is the start of an element of its side.
  pub within : (q : Refusal) → r ≡ Err q → WithinSide certificate issuer q
  pub kept : (q : Refusal) → r ≡ Err q → last ≡ room

-- the writer's
pub record WriterAnswers (number profile : ℕ) (certificate issuer room : List ℕ) (r : Result ℕ NotWritten) (last : List ℕ) : Type 0 where
  pub tabled :
      ByTable (write_table number profile (asked_of profile) certificate issuer room) (unrefused (block_count profile certificate issuer))
      (placing_values r)
  pub kept : (q : NotWritten) → r ≡ Err q → last ≡ room

pub record Demand1 : Type 0 where
  pub linter : (certificate issuer : List ℕ) (profile : ℕ) (room : List ℕ) (r : Result ℕ Refusal) (last : List ℕ)
      → Answered certificate issuer profile room r last → LinterAnswers certificate issuer profile room r last
  pub writer : (number profile : ℕ) (certificate issuer room : List ℕ) (r : Result ℕ NotWritten) (last : List ℕ)
      → Written number profile certificate issuer room r last → WriterAnswers number profile certificate issuer room r last
