-- The room of a call.
--     answer_room     the answer asks nothing of it but its length
--     room_long       a call leaves it as long as it was
--     report_is       the report in it is the findings' octets, where they fit
--     report_room     the report asks nothing of it but its length
-- Assumes nothing.
use mathlib.Core.Path.{◌≡◌, refl, sym, ap, ◌∙◌}
use mathlib.Core.List.{List, []}
use mathlib.Core.Bool.{Bool, true, false, cond}
use Prim.Native.Nat.{ℕ, ◌*◌}
use lib.Dec.{leb}
use lib.ListN.{length}
use Rattle.std.specs.Prelude.{Result, Ok, Err}
use Rattle.lint.specs.declared.reasons.Refusal.{Refusal}
use Rattle.lint.specs.Judging.{judgement_of}
use Rattle.lint.specs.Answers.{answer_to, answer_by, room_by, answer_of, room_of, report_of}
use Rattle.lint.specs.declared.reasons.Refusal.TheVariants.{NoRoom}
use Rattle.rules.specs.Rules.{findings}
use Rattle.profiles.specs.declared.fields.Profile.{Profile}
use Rattle.report.specs.Entries.{width, report_octets}
use Rattle.report.specs.Answers.{enough_room, filled}
use Rattle.report.specs.declared.sink.Entry.{Entry}
use Rattle.report.proofs.Laws.Passes.{filled_long, filled_report, enough_by_length}

module _ (certificate issuer room : List ℕ) where
  answer_by_lem : (j : Result Profile Refusal) (other : List ℕ) → length room ≡ length other → answer_by j certificate issuer room ≡ answer_by j certificate issuer other
  unfolding answer_to
  answer_by_lem (Err r) other e = refl
  answer_by_lem (Ok p) other e =
      let es = findings p certificate issuer in
      ap (λ (n : ℕ). cond (leb (width * length es) n) (Ok (length es)) (Err NoRoom)) e

  pub answer_room : (profile : ℕ) (other : List ℕ) → length room ≡ length other
      → answer_of certificate issuer profile room ≡ answer_of certificate issuer profile other
  unfolding answer_of
  answer_room profile other e = answer_by_lem (judgement_of certificate issuer profile) other e

  room_by_lem : (j : Result Profile Refusal) → length (room_by j certificate issuer room) ≡ length room
  room_by_lem (Err r) = refl
  room_by_lem (Ok p) = filled_long (findings p certificate issuer) room

  pub room_long : (profile : ℕ) → length (room_of certificate issuer profile room) ≡ length room
  unfolding room_of
  room_long profile = room_by_lem (judgement_of certificate issuer profile)

  -- of findings
  report_to : (es : List Entry) → enough_room es room ≡ true → report_of (answer_to es room) (filled es room) ≡ report_octets es
  unfolding answer_to
  report_to es t = rw t (filled_report es room t)

  report_none : (es : List Entry) → enough_room es room ≡ false → report_of (answer_to es room) (filled es room) ≡ []
  unfolding answer_to
  report_none es f = rw f

  pub report_is : (p : Profile) (profile : ℕ)
      → judgement_of certificate issuer profile ≡ Ok p → enough_room (findings p certificate issuer) room ≡ true
      → report_of (answer_of certificate issuer profile room) (room_of certificate issuer profile room) ≡ report_octets (findings p certificate issuer)
  unfolding answer_of room_of
  report_is p profile j t = rw j (report_to (findings p certificate issuer) t)

module _ (certificate issuer room other : List ℕ) (e : length room ≡ length other) where
  report_of_lem : (es : List Entry) → report_of (answer_to es room) (filled es room) ≡ report_of (answer_to es other) (filled es other)
  report_of_lem es = go (enough_room es room) refl
    where
      same : enough_room es other ≡ enough_room es room
      same = sym (enough_by_length es room other e)

      go : (b : Bool) → enough_room es room ≡ b → report_of (answer_to es room) (filled es room) ≡ report_of (answer_to es other) (filled es other)
      go true t = report_to certificate issuer room es t ∙ sym (report_to certificate issuer other es (same ∙ t))
      go false f = report_none certificate issuer room es f ∙ sym (report_none certificate issuer other es (same ∙ f))

  report_by : (j : Result Profile Refusal)
      → report_of (answer_by j certificate issuer room) (room_by j certificate issuer room)
      ≡ report_of (answer_by j certificate issuer other) (room_by j certificate issuer other)
  report_by (Err r) = refl
  report_by (Ok p) = report_of_lem (findings p certificate issuer)

  pub report_room : (profile : ℕ)
      → report_of (answer_of certificate issuer profile room) (room_of certificate issuer profile room)
      ≡ report_of (answer_of certificate issuer profile other) (room_of certificate issuer profile other)
  unfolding answer_of room_of
  report_room profile = report_by (judgement_of certificate issuer profile)
