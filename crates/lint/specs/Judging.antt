-- Refusals 1 to 6: "the first that applies, top to bottom"; "4, 5, 6 are tried on the certificate, then on the issuer" (document 01, "Refusals and
-- their order").
use Rattle.std.specs.Prelude.{Bool, cond, ◌&&◌, List, ℕ, leb, length, Option, ok_or, Result, Ok, Err}
use Rattle.std.specs.Result.{result_and}
use Rattle.lint.specs.declared.reasons.Inadmissible.{Inadmissible}
use Rattle.lint.specs.declared.reasons.Refusal.{Refusal}
use Rattle.lint.specs.declared.reasons.Side.{Side}
use Rattle.lint.specs.declared.reasons.Side.TheVariants.{Certificate, Issuer}
use Rattle.lint.specs.declared.reasons.Inadmissible.TheVariants.{CertificateLength, IssuerLength, UnknownProfile}
use Rattle.der.specs.Soundness.{der_soundness, Soundness}
use Rattle.asn.specs.Answers.{certificate_verdict}
use Rattle.profiles.specs.Fields.{asked_of}
use Rattle.profiles.specs.declared.fields.Profile.{Profile}
use Rattle.lint.specs.declared.reasons.Refusal.TheVariants as Refusals
use Rattle.der.specs.declared.walk.Fault.TheVariants.{Unsound, Unordered}
use Rattle.asn.specs.Grammar.{Verdict}
use Rattle.asn.specs.declared.fitting.Misfit.TheVariants.{Stranger, Wrong}

-- refusals 1 and 2 are for "0 or over 8,192 bytes"
abbrev pub side_length_ok : ℕ → Bool
side_length_ok n = leb 1 n && leb n 8192

-- 6 "not a certificate". (A list of elements is never a stranger.)
abbrev pub by_verdict : Profile → Side → Verdict → Result Profile Refusal
by_verdict p side (Ok _) = Ok p
by_verdict p side (Err (Wrong place)) = Err (Refusals.NotCertificate side place)
by_verdict p side (Err Stranger) = Err (Refusals.NotCertificate side 0)

-- 4 "not sound DER", 5 "a SET out of order", then 6
abbrev pub by_soundness : Profile → Side → Soundness → Verdict → Result Profile Refusal
by_soundness p side (Ok _) verdict = by_verdict p side verdict
by_soundness p side (Err (Unsound place)) verdict = Err (Refusals.Unsound side place)
by_soundness p side (Err (Unordered place)) verdict = Err (Refusals.Unordered side place)

unfoldable pub side_judgement : Profile → Side → List ℕ → Result Profile Refusal
side_judgement p side s = by_soundness p side (der_soundness s) (certificate_verdict s)

-- the first refusal, or what the second says
unfoldable pub both_sides : Profile → List ℕ → List ℕ → Result Profile Refusal
both_sides p certificate issuer = result_and (side_judgement p Certificate certificate) (side_judgement p Issuer issuer)

-- 3 "3 is given for profiles not 1 to 4" (document 02, CR 1)
abbrev pub for_profile : Option Profile → Result Profile Inadmissible
for_profile asked = ok_or asked UnknownProfile

-- 1 "certificate has 0 or over 8,192 bytes", 2 "issuer has 0 or over 8,192 bytes", then 3: of sides of so many octets. The writer gives these too.
unfoldable pub admission_of : ℕ → ℕ → ℕ → Result Profile Inadmissible
admission_of certificate issuer profile =
    cond (side_length_ok certificate)
    (cond (side_length_ok issuer) (for_profile (asked_of profile)) (Err IssuerLength))
    (Err CertificateLength)

-- then 4 to 6
abbrev pub once_admitted : Result Profile Inadmissible → List ℕ → List ℕ → Result Profile Refusal
once_admitted (Err r) certificate issuer = Err (Refusals.Inadmissible r)
once_admitted (Ok p) certificate issuer = both_sides p certificate issuer

unfoldable pub judgement_of : List ℕ → List ℕ → ℕ → Result Profile Refusal
judgement_of certificate issuer profile = once_admitted (admission_of (length certificate) (length issuer) profile) certificate issuer
