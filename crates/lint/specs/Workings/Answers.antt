-- The answer to an accepted certificate.
-- How the code goes about it: named by contracts of functions that no other crate can call, and by nothing else of `specs/`.
use Rattle.std.specs.Prelude.{List, ◌≡◌, ℕ, Result}
use Rattle.lint.specs.declared.reasons.Refusal.{Refusal}
use Rattle.lint.specs.Answers.{answer_to}
use Rattle.report.specs.Answers.{filled}
use Rattle.report.specs.declared.sink.Entry.{Entry}

-- the answer to findings, and the room then: the findings' octets and the rest of the room, or on refusal the room as it was
pub record Reported (es : List Entry) (room : List ℕ) (r : Result ℕ Refusal) (last : List ℕ) : Type 0 where
  pub told : r ≡ answer_to es room
  pub bytes : last ≡ filled es room
