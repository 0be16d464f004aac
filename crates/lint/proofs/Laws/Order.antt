-- The findings of an accepted certificate, read back.
--     findings_back        a report of them reads back as they were
-- Assumes nothing.
use mathlib.Core.Path.{◌≡◌}
use mathlib.Core.List.{List}
use mathlib.Core.Bool.{true}
use Prim.Native.Nat.{ℕ}
use native.Mathlib.Omega.{arith}
use lib.ListN.{length}
use Rattle.std.specs.Prelude.{Ok}
use Rattle.profiles.specs.declared.fields.Profile.{Profile}
use Rattle.report.specs.Answers.{enough_room, filled}
use Rattle.report.specs.Entries.{decode}
use Rattle.report.proofs.Laws.Reading.{report_back}
use Rattle.rules.specs.Rules.{findings}
use Rattle.rules.proofs.Laws.Findings.{findings_ordered, findings_inside, findings_levelled}
use Rattle.lint.specs.Judging.{judgement_of}
use Rattle.lint.proofs.Laws.Accepted.{accepted_fits, accepted_short}

-- in room that suffices
pub findings_back : (p : Profile) (s issuer : List ℕ) (profile : ℕ) (room : List ℕ) → judgement_of s issuer profile ≡ Ok p
    → enough_room (findings p s issuer) room ≡ true → decode (length (findings p s issuer)) (filled (findings p s issuer) room) ≡ findings p s issuer
findings_back p s issuer profile room e f =
    let short = accepted_short s issuer profile p e in
    let v = accepted_fits s issuer profile p e in
    report_back room (findings_ordered p s issuer v) (omega arith) (findings_inside p s issuer v) (omega arith) (findings_levelled p s issuer) f
