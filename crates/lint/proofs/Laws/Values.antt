-- The paper's values of the linter's answers.
--     admission_values_lem     those of refusals 1, 2 and 3 are the table's first rows, whatever follows
--     lint_values_lem          those of an answer are the table's
--     answered             so an answer with its room is the whole answer
--     values_apart         two answers of the same values are the same
--     inadmissible_tabled, refusal_tabled     a refusal's number is 1 to 8, its side at most 2
-- Assumes nothing.
use mathlib.Core.Path.{◌≡◌, refl, sym, ap, ◌∙◌}
use mathlib.Core.List.{List, [], ◌∷◌, ◌++◌}
use mathlib.Core.Bool.{Bool, true, false, cond, not}
use Prim.Native.Nat.{ℕ, ◌≤◌}
use native.Mathlib.Omega.{arith}
use lib.Dec.{eqb}
use lib.ListN.{length}
use Rattle.std.specs.Prelude.{Option, Some, None, is_none, Result, Ok, Err}
use Rattle.std.specs.Result.{result_and}
use Rattle.lint.specs.Refusals.{side_number, inadmissible_values, refusal_values, answer_values}
use Rattle.lint.specs.Judging.{side_length_ok, by_soundness, side_judgement, both_sides, for_profile, admission_of, once_admitted, judgement_of}
use Rattle.lint.specs.Values.{admission_table, found_table, side_table, room_table, found_under, lint_values}
use Rattle.lint.specs.Answers.{answer_to, answer_by, answer_of, room_of, Answered}
use Rattle.lint.specs.declared.reasons.Side.{Side}
use Rattle.lint.specs.declared.reasons.Side.TheVariants.{Certificate, Issuer}
use Rattle.lint.specs.declared.reasons.Inadmissible.TheVariants.{CertificateLength, IssuerLength, UnknownProfile}
use Rattle.lint.specs.declared.reasons.Refusal.{Refusal}
use Rattle.lint.specs.declared.reasons.Refusal.TheVariants.{Inadmissible, Unsound, Unordered, NotCertificate, NoRoom}
use Rattle.refusals.specs.Table.{not_sound_der, set_out_of_order, not_certificate, too_little_room, wrong_certificate_length, wrong_issuer_length}
use Rattle.refusals.specs.Table.{unknown_profile, on_neither, on_certificate, on_issuer, unrefused, RefusalRow, refusal_row, first_that_applies}
use Rattle.refusals.specs.declared.table.Values.{Values}
use Rattle.refusals.proofs.Laws.Table.{Tabled, tabled}
use Rattle.der.specs.Soundness.{der_soundness, Soundness}
use Rattle.asn.specs.Answers.{certificate_verdict}
use Rattle.profiles.specs.Fields.{asked_of}
use Rattle.profiles.specs.declared.fields.Profile.{Profile}
use Rattle.report.specs.Answers.{enough_room}
use Rattle.report.specs.declared.sink.Entry.{Entry}
use Rattle.rules.specs.Rules.{findings}
use Rattle.der.specs.declared.walk.Fault.TheVariants as Faults
use Rattle.lint.specs.declared.reasons.Inadmissible as Reason
use Rattle.asn.specs.Grammar.{Verdict}
use Rattle.asn.specs.declared.fitting.Misfit.TheVariants.{Stranger, Wrong}

-- ---- refusals 1, 2 and 3

-- the values of what refusals 1 to 3 leave, and what follows for a profile
abbrev pub admission_values : Result Profile Reason.Inadmissible → (Profile → Values) → Values
admission_values (Err r) below = inadmissible_values r
admission_values (Ok p) below = below p

-- `rest` are the rows below them
pub admission_values_lem : (certificate issuer profile : ℕ) (f : Profile → Values) (rest : Option Profile → List RefusalRow) (otherwise : Option Profile → Values)
    → ((p : Profile) → f p ≡ first_that_applies (rest (Some p)) (otherwise (Some p)))
    → admission_values (admission_of certificate issuer profile) f
    ≡ first_that_applies (admission_table certificate issuer (asked_of profile) ++ rest (asked_of profile)) (otherwise (asked_of profile))
unfolding admission_of
admission_values_lem certificate issuer profile f rest otherwise same = go (side_length_ok certificate) (side_length_ok issuer) (asked_of profile)
  where
    go : (a b : Bool) (asked : Option Profile)
        → admission_values (cond a (cond b (for_profile asked) (Err IssuerLength)) (Err CertificateLength)) f
        ≡ first_that_applies (refusal_row wrong_certificate_length on_certificate 0 (not a) ∷ refusal_row wrong_issuer_length on_issuer 0 (not b)
        ∷ refusal_row unknown_profile on_neither 0 (is_none asked) ∷ rest asked) (otherwise asked)
    go true true (Some p) = same p
    go true true None = refl
    go true false asked = refl
    go false b asked = refl

-- ---- refusals 4, 5 and 6

-- the same of refusals 1 to 6
abbrev judgement_values : Result Profile Refusal → (Profile → Values) → Values
judgement_values (Err r) below = refusal_values r
judgement_values (Ok p) below = below p

side_values : (p : Profile) (side : Side) (s : List ℕ) (below : Profile → Values) (rest : List RefusalRow) (otherwise : Values)
    → below p ≡ first_that_applies rest otherwise
    → judgement_values (side_judgement p side s) below ≡ first_that_applies (side_table (side_number side) s ++ rest) otherwise
unfolding side_judgement
side_values p side s below rest otherwise e = go (der_soundness s) (certificate_verdict s)
  where
    go : (d : Soundness) (v : Verdict)
        → judgement_values (by_soundness p side d v) below ≡ first_that_applies (found_table (side_number side) d v ++ rest) otherwise
    go (Err (Faults.Unsound place)) v = refl
    go (Err (Faults.Unordered place)) v = refl
    go (Ok _) (Ok _) = e
    go (Ok _) (Err (Wrong place)) = refl
    go (Ok _) (Err Stranger) = refl

and_values : (a b : Result Profile Refusal) (below : Profile → Values)
    → judgement_values (result_and a b) below ≡ judgement_values a (λ p. judgement_values b below)
and_values (Err r) b below = refl
and_values (Ok p) b below = refl

both_values : (p : Profile) (certificate issuer : List ℕ) (below : Profile → Values) (rest : List RefusalRow) (otherwise : Values)
    → below p ≡ first_that_applies rest otherwise
    → judgement_values (both_sides p certificate issuer) below
    ≡ first_that_applies (side_table on_certificate certificate ++ (side_table on_issuer issuer ++ rest)) otherwise
unfolding both_sides
both_values p certificate issuer below rest otherwise e =
    and_values (side_judgement p Certificate certificate) (side_judgement p Issuer issuer) below
    ∙ side_values p Certificate certificate (λ q. judgement_values (side_judgement p Issuer issuer) below) (side_table on_issuer issuer ++ rest) otherwise
    (side_values p Issuer issuer below rest otherwise e)

once_values : (a : Result Profile Reason.Inadmissible) (certificate issuer : List ℕ) (below : Profile → Values)
    → judgement_values (once_admitted a certificate issuer) below ≡ admission_values a (λ p. judgement_values (both_sides p certificate issuer) below)
once_values (Err r) certificate issuer below = refl
once_values (Ok p) certificate issuer below = refl

-- ---- refusal 7

-- what is given once 1 to 6 do not apply
abbrev room_values : List Entry → List ℕ → Values
room_values es room = first_that_applies (room_table es room) (unrefused (length es))

room_values_lem : (es : List Entry) (room : List ℕ) → answer_values (answer_to es room) ≡ room_values es room
unfolding answer_to
room_values_lem es room = go (enough_room es room)
  where
    go : (b : Bool)
        → answer_values (cond b (Ok (length es)) (Err NoRoom))
        ≡ first_that_applies (refusal_row too_little_room on_neither 0 (not b) ∷ []) (unrefused (length es))
    go true = refl
    go false = refl

answer_by_lem : (j : Result Profile Refusal) (certificate issuer room : List ℕ)
    → answer_values (answer_by j certificate issuer room) ≡ judgement_values j (λ p. room_values (findings p certificate issuer) room)
answer_by_lem (Err r) certificate issuer room = refl
answer_by_lem (Ok p) certificate issuer room = room_values_lem (findings p certificate issuer) room

-- ---- whole answers

pub lint_values_lem : (certificate issuer : List ℕ) (profile : ℕ) (room : List ℕ)
    → answer_values (answer_of certificate issuer profile room) ≡ lint_values certificate issuer profile room
unfolding answer_of judgement_of lint_values
lint_values_lem certificate issuer profile room =
    let below : Profile → Values = λ p. room_values (findings p certificate issuer) room in
    let es : Option Profile → List Entry = λ asked. found_under asked certificate issuer in
    answer_by_lem (once_admitted (admission_of (length certificate) (length issuer) profile) certificate issuer) certificate issuer room
    ∙ once_values (admission_of (length certificate) (length issuer) profile) certificate issuer below
    ∙ admission_values_lem (length certificate) (length issuer) profile (λ p. judgement_values (both_sides p certificate issuer) below)
    (λ asked. side_table on_certificate certificate ++ (side_table on_issuer issuer ++ room_table (es asked) room)) (λ asked. unrefused (length (es asked)))
    (λ p. both_values p certificate issuer below (room_table (es (Some p)) room) (unrefused (length (es (Some p)))) refl)

pub answered : {certificate issuer : List ℕ} {profile : ℕ} {room : List ℕ} {r : Result ℕ Refusal} {last : List ℕ}
    → r ≡ answer_of certificate issuer profile room → last ≡ room_of certificate issuer profile room → Answered certificate issuer profile room r last
answered {certificate} {issuer} {profile} {room} e b =
    record { told = e; values = ap answer_values e ∙ lint_values_lem certificate issuer profile room; bytes = b }

-- ---- answers by their values

abbrev side_from : ℕ → Side
side_from n = cond (eqb n on_certificate) Certificate Issuer

abbrev pub inadmissible_from : ℕ → Reason.Inadmissible
inadmissible_from n = cond (eqb n wrong_certificate_length) CertificateLength (cond (eqb n wrong_issuer_length) IssuerLength UnknownProfile)

abbrev refusal_from : ℕ → Side → ℕ → Refusal
refusal_from n side place =
    cond (eqb n not_sound_der) (Unsound side place)
    (cond (eqb n set_out_of_order) (Unordered side place)
    (cond (eqb n not_certificate) (NotCertificate side place)
    (cond (eqb n too_little_room) NoRoom (Inadmissible (inadmissible_from n)))))

abbrev answer_from : Values → Result ℕ Refusal
answer_from v = cond (eqb v.number 0) (Ok v.count) (Err (refusal_from v.number (side_from v.side) v.place))

refusal_from_lem : (r : Refusal) → answer_from (refusal_values r) ≡ Err r
refusal_from_lem (Inadmissible CertificateLength) = refl
refusal_from_lem (Inadmissible IssuerLength) = refl
refusal_from_lem (Inadmissible UnknownProfile) = refl
refusal_from_lem (Unsound Certificate place) = refl
refusal_from_lem (Unsound Issuer place) = refl
refusal_from_lem (Unordered Certificate place) = refl
refusal_from_lem (Unordered Issuer place) = refl
refusal_from_lem (NotCertificate Certificate place) = refl
refusal_from_lem (NotCertificate Issuer place) = refl
refusal_from_lem NoRoom = refl

answer_from_lem : (a : Result ℕ Refusal) → answer_from (answer_values a) ≡ a
answer_from_lem (Ok count) = refl
answer_from_lem (Err r) = refusal_from_lem r

pub values_apart : (a b : Result ℕ Refusal) → answer_values a ≡ answer_values b → a ≡ b
values_apart a b e = sym (answer_from_lem a) ∙ ap answer_from e ∙ answer_from_lem b

-- ---- bounds

side_small : (side : Side) → side_number side ≤ 2
side_small Certificate = omega arith
side_small Issuer = omega arith

pub inadmissible_tabled : (r : Reason.Inadmissible) → Tabled (inadmissible_values r)
inadmissible_tabled CertificateLength = tabled _ _ _ (omega arith) (omega arith) (omega arith)
inadmissible_tabled IssuerLength = tabled _ _ _ (omega arith) (omega arith) (omega arith)
inadmissible_tabled UnknownProfile = tabled _ _ _ (omega arith) (omega arith) (omega arith)

pub refusal_tabled : (r : Refusal) → Tabled (refusal_values r)
refusal_tabled (Inadmissible r) = inadmissible_tabled r
refusal_tabled (Unsound side place) = tabled _ _ _ (omega arith) (omega arith) (side_small side)
refusal_tabled (Unordered side place) = tabled _ _ _ (omega arith) (omega arith) (side_small side)
refusal_tabled (NotCertificate side place) = tabled _ _ _ (omega arith) (omega arith) (side_small side)
refusal_tabled NoRoom = tabled _ _ _ (omega arith) (omega arith) (omega arith)
