-- The linter's complete answer: what it says, and what the room holds then.
use Rattle.std.specs.Prelude.{cond, List, [], ◌≡◌, ℕ, ◌*◌, length, take, Err, Ok, Result}
use Rattle.lint.specs.declared.reasons.Refusal.{Refusal}
use Rattle.lint.specs.Refusals.{answer_values}
use Rattle.lint.specs.Judging.{judgement_of}
use Rattle.lint.specs.Values.{lint_values}
use Rattle.lint.specs.declared.reasons.Refusal.TheVariants.{NoRoom}
use Rattle.report.specs.Entries.{width}
use Rattle.report.specs.Answers.{enough_room, filled}
use Rattle.report.specs.declared.sink.Entry.{Entry}
use Rattle.profiles.specs.declared.fields.Profile.{Profile}
use Rattle.rules.specs.Rules.{findings}

-- 7 "too little room", else the number of findings
unfoldable pub answer_to : List Entry → List ℕ → Result ℕ Refusal
answer_to es room = cond (enough_room es room) (Ok (length es)) (Err NoRoom)

-- by refusals 1 to 6
abbrev pub answer_by : Result Profile Refusal → List ℕ → List ℕ → List ℕ → Result ℕ Refusal
answer_by (Err r) certificate issuer room = Err r
answer_by (Ok p) certificate issuer room = answer_to (findings p certificate issuer) room

abbrev pub room_by : Result Profile Refusal → List ℕ → List ℕ → List ℕ → List ℕ
room_by (Err r) certificate issuer room = room
room_by (Ok p) certificate issuer room = filled (findings p certificate issuer) room

unfoldable pub answer_of : List ℕ → List ℕ → ℕ → List ℕ → Result ℕ Refusal
answer_of certificate issuer profile room = answer_by (judgement_of certificate issuer profile) certificate issuer room

unfoldable pub room_of : List ℕ → List ℕ → ℕ → List ℕ → List ℕ
room_of certificate issuer profile room = room_by (judgement_of certificate issuer profile) certificate issuer room

-- the whole of it
pub record Answered (certificate issuer : List ℕ) (profile : ℕ) (room : List ℕ) (r : Result ℕ Refusal) (last : List ℕ) : Type 0 where
  pub told : r ≡ answer_of certificate issuer profile room
  pub values : answer_values r ≡ lint_values certificate issuer profile room
  pub bytes : last ≡ room_of certificate issuer profile room

-- the report that an answer leaves in the room: the octets of the findings that it counts
abbrev pub report_of : Result ℕ Refusal → List ℕ → List ℕ
report_of (Ok n) room = take (width * n) room
report_of (Err r) room = []
