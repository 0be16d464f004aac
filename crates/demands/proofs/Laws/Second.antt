-- Demand 2, proved: `demand_2`. Assumes nothing.
use mathlib.Core.Bool.{true}
use mathlib.Core.List.{List, [], ◌∷◌, ◌++◌}
use mathlib.Core.Logic.{◌↔◌}
use mathlib.Core.Path.{◌≡◌, refl, sym, ap, subst, ◌∙◌}
use Prim.Native.Nat.{ℕ, ◌*◌, ◌<◌}
use native.Mathlib.Omega.{arith}
use lib.ListN.{length, drop}
use lib.Seq.{drop_at}
use Rattle.std.specs.Prelude.{Result, Ok, Err}
use Rattle.demands.specs.Second.{rules_on, SaysBroken, ExactReport, Demand2}
use Rattle.profiles.specs.Judged.{judged_by}
use Rattle.profiles.specs.declared.fields.Profile.{Profile}
use Rattle.certificate.specs.Issuer.{known_of}
use Rattle.report.specs.Answers.{enough_room, filled}
use Rattle.report.specs.Entries.{width, report_octets, decode}
use Rattle.report.specs.Order.{In, EntriesLevelled}
use Rattle.report.specs.Rows.{Row}
use Rattle.report.specs.declared.sink.Entry.{Entry}
use Rattle.report.proofs.Laws.Passes.{filled_written, report_long}
use Rattle.report.proofs.Laws.Order.{not_equal}
use Rattle.rules.specs.Rules.{findings}
use Rattle.rules.proofs.Laws.Findings.{finding_in, none_broken, findings_ordered, findings_levelled}
use Rattle.lint.specs.declared.reasons.Refusal.{Refusal}
use Rattle.lint.specs.Judging.{judgement_of}
use Rattle.lint.specs.Answers.{answer_by, answer_of, room_of}
use Rattle.lint.proofs.Laws.Accepted.{accepted_fits, accepted_asked}
use Rattle.lint.proofs.Laws.Order.{findings_back}
use Rattle.lint.proofs.Laws.Statements.{told_report, findings_counted}
use Rattle.places.proofs.Laws.Theorem.{places}
use Rattle.recovery.proofs.Laws.Back.{reads_back}

-- a report is given to what is accepted
accepted_for : (certificate issuer : List ℕ) (profile : ℕ) (room : List ℕ) (n : ℕ) → answer_of certificate issuer profile room ≡ Ok n
    → (p : Profile) × (judgement_of certificate issuer profile ≡ Ok p)
unfolding answer_of
accepted_for certificate issuer profile room n told = go (judgement_of certificate issuer profile) refl told
  where
    go : (j : Result Profile Refusal) → judgement_of certificate issuer profile ≡ j → answer_by j certificate issuer room ≡ Ok n
        → (p : Profile) × (judgement_of certificate issuer profile ≡ Ok p)
    go (Err r) q e = cc
    go (Ok p) q e = (p, q)

-- no entries
none : (n : ℕ) (es : List Entry) → n ≡ length es → (n ≡ 0) ↔ (es ≡ [])
none n es e = (λ z. empty_list es (sym e ∙ z), λ z. e ∙ ap length z)
  where
    empty_list : (xs : List Entry) → length xs ≡ 0 → xs ≡ []
    empty_list [] z = refl
    empty_list (x ∷ xs) z = absurd (omega (arith, z))

module _ (p : Profile) (certificate issuer : List ℕ) (profile : ℕ) (room : List ℕ) (n : ℕ)
    (j : judgement_of certificate issuer profile ≡ Ok p) (told : answer_of certificate issuer profile room ≡ Ok n) where
  abbrev es : List Entry
  es = findings p certificate issuer

  abbrev left : List ℕ
  left = room_of certificate issuer profile room

  suffices : enough_room es room ≡ true
  unfolding answer_of
  suffices = (told_report es room n (rw j at told)).0

  counted : n ≡ length es
  counted = findings_counted p certificate issuer profile room n j told

  room_is : left ≡ filled es room
  unfolding room_of
  room_is = rw j

  read : decode n left ≡ es
  read =
      ap (λ (k : ℕ). decode k left) counted
      ∙ ap (λ (l : List ℕ). decode (length es) l) room_is
      ∙ findings_back p certificate issuer profile room j suffices

  untouched : drop (width * n) left ≡ drop (width * n) room
  untouched =
      ap (λ (l : List ℕ). drop (width * n) l) (room_is ∙ filled_written es room suffices)
      ∙ ap (λ (k : ℕ). drop (width * k) (report_octets es ++ drop (width * length es) room)) counted
      ∙ drop_at (report_octets es) (drop (width * length es) room) (width * length es) (report_long es)
      ∙ ap (λ (k : ℕ). drop (width * k) room) (sym counted)

  in_rules : (e : Entry) → In e es ↔ SaysBroken p (rules_on p certificate issuer) e
  unfolding findings
  in_rules e = finding_in p certificate (known_of issuer) e

  no_rule : (es ≡ []) ↔ ((r : Row) → In r (rules_on p certificate issuer) → judged_by p r.profiles ≡ true → r.broken ≡ [])
  unfolding findings
  no_rule = none_broken p certificate (known_of issuer)

  exact : ExactReport p certificate issuer room n left
  exact =
      let rises = (findings_ordered p certificate issuer (accepted_fits certificate issuer profile p j)).rising in
      record {
        exactly = λ e. subst (λ (xs : List Entry). In e xs ↔ SaysBroken p (rules_on p certificate issuer) e) (sym read) (in_rules e);
        rising = rw read rises;
        once = λ i k d l m same. not_equal {es = es} i k d rises l (subst (λ (x : ℕ). k < x) counted m) (rw read at same);
        elements = (places certificate issuer profile).report_elements room n told;
        levels = subst EntriesLevelled (sym read) (findings_levelled p certificate issuer);
        empty = let a = none n es counted in
            (λ z. no_rule.0 (a.0 z), λ h. a.1 (no_rule.1 h));
        rest = untouched;
      }

pub demand_2 : Demand2
demand_2 =
    record {
      report = λ certificate issuer profile room r n last a e.
          let told = sym a.told ∙ e in
          let j = accepted_for certificate issuer profile room n told in (
            j.0,
            accepted_asked certificate issuer profile j.0 j.1,
            subst (λ (l : List ℕ). ExactReport j.0 certificate issuer room n l) (sym a.bytes)
                (exact j.0 certificate issuer profile room n j.1 told),
          );
      reads_back = reads_back;
    }
