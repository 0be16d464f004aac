-- Every entry of a report is at an element of the certificate, and each of those is sound.
--     places
-- Assumes nothing.
use mathlib.Core.Path.{◌≡◌, refl, sym, ap, ◌∙◌, subst}
use mathlib.Core.List.{List}
use Prim.Native.Nat.{ℕ}
use Rattle.std.specs.Prelude.{Result, Ok, Err}
use Rattle.places.specs.Statement.{AtElements, Places}
use Rattle.profiles.specs.declared.fields.Profile.{Profile}
use Rattle.report.specs.Answers.{filled}
use Rattle.report.specs.Entries.{decode}
use Rattle.report.specs.declared.sink.Entry.{Entry}
use Rattle.rules.specs.Rules.{findings}
use Rattle.rules.proofs.Laws.Findings.{findings_elements}
use Rattle.lint.specs.declared.reasons.Refusal.{Refusal}
use Rattle.lint.specs.Judging.{judgement_of}
use Rattle.lint.specs.Answers.{answer_by, room_by, answer_of, room_of}
use Rattle.lint.proofs.Laws.Accepted.{accepted_fits}
use Rattle.lint.proofs.Laws.Order.{findings_back}
use Rattle.lint.proofs.Laws.Statements.{told_report}
use Rattle.places.proofs.Laws.Soundness.{element_sound}
use Rattle.octets.specs.declared.places.Place.{Place}
use Rattle.places.proofs.Laws.Accepted.{accepted_sound}

module _ (s issuer : List ℕ) (profile : ℕ) where
  findings_at : (p : Profile) → judgement_of s issuer profile ≡ Ok p → AtElements s (findings p s issuer)
  findings_at p e =
      record {
        each = λ d m. let x = findings_elements p s issuer (accepted_fits s issuer profile p e) d m in
            record { element = x.0; is = x.1; start = ap (λ (q : Place). q.start) x.2; whole = ap (λ (q : Place). q.len) x.2 };
      }

  -- ---- what the linter answers

  module _ (room : List ℕ) (n : ℕ) where
    answered : (j : Result Profile Refusal) → judgement_of s issuer profile ≡ j → answer_by j s issuer room ≡ Ok n
        → AtElements s (decode n (room_by j s issuer room))
    answered (Err r) q e = cc
    answered (Ok p) q e =
        let c = told_report (findings p s issuer) room n e in
        let back = ap (λ (m : ℕ). decode m (filled (findings p s issuer) room)) c.1 ∙ findings_back p s issuer profile room q c.0 in
        subst (λ (es : List Entry). AtElements s es) (sym back) (findings_at p q)

    report_at : answer_of s issuer profile room ≡ Ok n → AtElements s (decode n (room_of s issuer profile room))
    unfolding answer_of room_of
    report_at e = answered (judgement_of s issuer profile) refl e

  -- ---- the statement

  pub places : Places s issuer profile
  places =
      record {
        findings_elements = findings_at;
        elements_sound = λ p e. element_sound s (accepted_sound p s issuer profile e);
        report_elements = report_at;
      }
