-- Statements about the linter's whole answer.
--     one_answer        S11: any two answers that the contract allows coincide, and so do the rooms
--     same_answer       S5: two accepted issuers that agree in subject name and key identifier give the same answer and room
--     accepted          S2: a call with two acceptable sides and profile 1, 2 or 3 is refused by 7 at most
--     told_report       a report is given where the room suffices
--     findings_counted  S10: the count is the number of findings
--     room_kept         a refused call leaves the room as it was
-- Assumes nothing.
use mathlib.Core.Path.{◌≡◌, refl, sym, ap, ◌∙◌}
use mathlib.Core.List.{List}
use mathlib.Core.Bool.{Bool, true, false, cond}
use Prim.Native.Nat.{ℕ}
use lib.ListN.{length}
use Rattle.std.specs.Prelude.{Result, Ok, Err, Some}
use Rattle.lint.specs.declared.reasons.Inadmissible.{Inadmissible}
use Rattle.lint.specs.Judging.{side_length_ok, side_judgement, both_sides, for_profile, admission_of, once_admitted, judgement_of}
use Rattle.lint.specs.Answers.{answer_to, answer_by, room_by, answer_of, room_of, Answered}
use Rattle.lint.specs.Statements.{Acceptable}
use Rattle.lint.specs.declared.reasons.Side.{Side}
use Rattle.lint.specs.declared.reasons.Side.TheVariants.{Certificate, Issuer}
use Rattle.lint.specs.declared.reasons.Inadmissible.TheVariants.{CertificateLength}
use Rattle.lint.specs.declared.reasons.Refusal.{Refusal}
use Rattle.profiles.specs.Fields.{asked_of}
use Rattle.profiles.specs.declared.fields.Profile.{Profile}
use Rattle.report.specs.Answers.{enough_room, filled}
use Rattle.report.specs.declared.sink.Entry.{Entry}
use Rattle.report.proofs.Laws.Passes.{filled_short}
use Rattle.certificate.specs.Issuer.{known_of}
use Rattle.rules.specs.Rules.{findings_for, findings}
use Rattle.lint.specs.declared.reasons.Refusal.TheVariants as Refusals

-- ---- S11

pub one_answer : {certificate issuer room last last' : List ℕ} {profile : ℕ} {r r' : Result ℕ Refusal}
    → Answered certificate issuer profile room r last → Answered certificate issuer profile room r' last' → (r ≡ r') × (last ≡ last')
one_answer a b = (a.told ∙ sym b.told, a.bytes ∙ sym b.bytes)

-- ---- acceptable sides

side_accepted : (p : Profile) (side : Side) (s : List ℕ) → Acceptable s → side_judgement p side s ≡ Ok p
unfolding side_judgement
side_accepted p side s a = rw (a.sound, a.fits)

pub accepted : (p : Profile) (certificate issuer : List ℕ) (profile : ℕ) → Acceptable certificate → Acceptable issuer
    → asked_of profile ≡ Some p → judgement_of certificate issuer profile ≡ Ok p
unfolding judgement_of admission_of both_sides
accepted p certificate issuer profile a b e =
    rw (a.sized, b.sized, e, side_accepted p Certificate certificate a, side_accepted p Issuer issuer b)

-- ---- S5

-- refusals 1 to 6 do not tell two acceptable issuers apart
same_judgement : (certificate i j : List ℕ) (profile : ℕ) → Acceptable i → Acceptable j → judgement_of certificate i profile ≡ judgement_of certificate j profile
unfolding judgement_of admission_of both_sides
same_judgement certificate i j profile a b =
    rw (a.sized, b.sized) (go (cond (side_length_ok (length certificate)) (for_profile (asked_of profile))
    (Err CertificateLength)))
  where
    go : (admission : Result Profile Inadmissible) → once_admitted admission certificate i ≡ once_admitted admission certificate j
    go (Err r) = refl
    go (Ok p) = rw (side_accepted p Issuer i a, side_accepted p Issuer j b)

same_by_lem : (judgement : Result Profile Refusal) (certificate i j room : List ℕ) → known_of i ≡ known_of j
    → (answer_by judgement certificate i room ≡ answer_by judgement certificate j room) ×
    (room_by judgement certificate i room ≡ room_by judgement certificate j room)
unfolding findings
same_by_lem (Err r) certificate i j room e = (refl, refl)
same_by_lem (Ok p) certificate i j room e =
    (ap (λ k. answer_to (findings_for p certificate k) room) e, ap (λ k. filled (findings_for p certificate k) room) e)

-- "two accepted issuers that agree in these give the same answer"
pub same_answer : (certificate i j : List ℕ) (profile : ℕ) (room : List ℕ) → Acceptable i → Acceptable j → known_of i ≡ known_of j
    → (answer_of certificate i profile room ≡ answer_of certificate j profile room) × (room_of certificate i profile room ≡ room_of certificate j profile room)
unfolding answer_of room_of
same_answer certificate i j profile room a b e =
    rw (same_judgement certificate i j profile a b) (same_by_lem (judgement_of certificate j profile) certificate i j room e)

-- ---- S10

-- a report is given where the room suffices, and counts the findings
pub told_report : (es : List Entry) (room : List ℕ) (n : ℕ) → answer_to es room ≡ Ok n → (enough_room es room ≡ true) × (n ≡ length es)
unfolding answer_to
told_report es room n = go (enough_room es room)
  where
    go : (b : Bool) → cond b (Ok (length es)) (Err Refusals.NoRoom) ≡ Ok n → (b ≡ true) × (n ≡ length es)
    go true e = (refl, cc)
    go false e = (cc, cc)

-- the count of an answer is the number of findings
pub findings_counted : (p : Profile) (certificate issuer : List ℕ) (profile : ℕ) (room : List ℕ) (n : ℕ)
    → judgement_of certificate issuer profile ≡ Ok p → answer_of certificate issuer profile room ≡ Ok n
    → n ≡ length (findings p certificate issuer)
unfolding answer_of
findings_counted p certificate issuer profile room n j e =
    (told_report (findings p certificate issuer) room n (rw j at e)).1

-- ---- refusals

refused_to : (es : List Entry) (room : List ℕ) (r : Refusal) → answer_to es room ≡ Err r → filled es room ≡ room
unfolding answer_to
refused_to es room r = go (enough_room es room) refl
  where
    go : (b : Bool) → enough_room es room ≡ b → cond b (Ok (length es)) (Err Refusals.NoRoom) ≡ Err r → filled es room ≡ room
    go true f e = cc
    go false f e = filled_short es room f

refused_by : (judgement : Result Profile Refusal) (certificate issuer room : List ℕ) (r : Refusal)
    → answer_by judgement certificate issuer room ≡ Err r → room_by judgement certificate issuer room ≡ room
refused_by (Err q) certificate issuer room r e = refl
refused_by (Ok p) certificate issuer room r e = refused_to (findings p certificate issuer) room r e

-- "lent memory unchanged"
pub room_kept : (certificate issuer : List ℕ) (profile : ℕ) (room : List ℕ) (r : Refusal)
    → answer_of certificate issuer profile room ≡ Err r → room_of certificate issuer profile room ≡ room
unfolding answer_of room_of
room_kept certificate issuer profile room r e = refused_by (judgement_of certificate issuer profile) certificate issuer room r e
