-- What is known of a certificate that is accepted: none of refusals 1 to 6 applies to it.
--     admitted_certificate, admitted_issuer     a side that was admitted has 1 to 8,192 octets
--     accepted_fits      it is of RFC 5280's grammar
--     accepted_short     it has at most 8,192 octets
--     accepted_asked     it is accepted for the profile that was asked for
-- Assumes nothing.
use mathlib.Core.Path.{◌≡◌, refl, ap, subst}
use mathlib.Core.List.{List}
use mathlib.Core.Bool.{Bool, true, false, cond}
use Prim.Native.Nat.{ℕ, ◌≤◌}
use lib.Dec.{leb}
use lib.ListN.{length}
use borrow.Author.Tests.{leb-true}
use Rattle.std.specs.Prelude.{Option, Result, Ok, Err, None, Some}
use Rattle.std.specs.Result.{result_and}
use Rattle.lint.specs.Judging.{side_length_ok, by_verdict, by_soundness, side_judgement, both_sides, for_profile, admission_of, once_admitted}
use Rattle.lint.specs.Judging.{judgement_of}
use Rattle.lint.specs.declared.reasons.Side.{Side}
use Rattle.lint.specs.declared.reasons.Side.TheVariants.{Certificate, Issuer}
use Rattle.lint.specs.declared.reasons.Inadmissible.{Inadmissible}
use Rattle.lint.specs.declared.reasons.Inadmissible.TheVariants.{CertificateLength, IssuerLength}
use Rattle.lint.specs.declared.reasons.Refusal.{Refusal}
use Rattle.octets.proofs.Laws.Tests.{and_l, and_r}
use Rattle.der.specs.Soundness.{der_soundness, Soundness}
use Rattle.asn.specs.Answers.{certificate_verdict}
use Rattle.profiles.specs.Fields.{asked_of}
use Rattle.profiles.specs.declared.fields.Profile.{Profile}
use Rattle.der.specs.declared.walk.Fault.TheVariants.{Unsound, Unordered}
use Rattle.asn.specs.Grammar.{Verdict}
use Rattle.asn.specs.declared.fitting.Misfit.TheVariants.{Stranger, Wrong}

-- a test that refuses if it fails
passed : (b : Bool) (a : Result Profile Inadmissible) (r : Inadmissible) (p : Profile) → cond b a (Err r) ≡ Ok p
    → (b ≡ true) × (a ≡ Ok p)
passed true a r p e = (refl, e)
passed false a r p e = cc

sized : (n : ℕ) → side_length_ok n ≡ true → (1 ≤ n) × (n ≤ 8192)
sized n t = (leb-true 1 n (and_l (leb 1 n) (leb n 8192) t), leb-true n 8192 (and_r (leb 1 n) (leb n 8192) t))

module _ (certificate issuer profile : ℕ) (p : Profile) (e : admission_of certificate issuer profile ≡ Ok p) where
  pub admitted_certificate : (1 ≤ certificate) × (certificate ≤ 8192)
  unfolding admission_of
  admitted_certificate = sized certificate (passed (side_length_ok certificate) _ _ p e).0

  pub admitted_issuer : (1 ≤ issuer) × (issuer ≤ 8192)
  unfolding admission_of
  admitted_issuer = sized issuer (passed (side_length_ok issuer) _ _ p (passed (side_length_ok certificate) _ _ p e).1).0

verdict_fits : (q p : Profile) (side : Side) (v : Verdict) → by_verdict q side v ≡ Ok p → v ≡ Ok tt
verdict_fits q p side (Ok _) e = refl
verdict_fits q p side (Err (Wrong place)) e = cc
verdict_fits q p side (Err Stranger) e = cc

sound_fits : (q p : Profile) (side : Side) (d : Soundness) (v : Verdict) → by_soundness q side d v ≡ Ok p → v ≡ Ok tt
sound_fits q p side (Ok _) v e = verdict_fits q p side v e
sound_fits q p side (Err (Unsound place)) v e = cc
sound_fits q p side (Err (Unordered place)) v e = cc

side_fits : (q p : Profile) (side : Side) (s : List ℕ) → side_judgement q side s ≡ Ok p → certificate_verdict s ≡ Ok tt
unfolding side_judgement
side_fits q p side s e = sound_fits q p side (der_soundness s) (certificate_verdict s) e

first_accepts : (a b : Result Profile Refusal) (p : Profile) → result_and a b ≡ Ok p → (q : Profile) × (a ≡ Ok q)
first_accepts (Err r) b p e = cc
first_accepts (Ok q) b p e = (q, refl)

-- what is accepted was admitted, and then neither side was refused
admitted : (a : Result Profile Inadmissible) (p : Profile) (s issuer : List ℕ) → once_admitted a s issuer ≡ Ok p
    → (q : Profile) × (a ≡ Ok q) × (certificate_verdict s ≡ Ok tt)
unfolding both_sides
admitted (Err r) p s issuer e = cc
admitted (Ok q) p s issuer e =
    let f = first_accepts (side_judgement q Certificate s) (side_judgement q Issuer issuer) p e in
    (q, refl, side_fits q f.0 Certificate s f.1)

module _ (s issuer : List ℕ) (profile : ℕ) (p : Profile) (e : judgement_of s issuer profile ≡ Ok p) where
  pub accepted_fits : certificate_verdict s ≡ Ok tt
  unfolding judgement_of
  accepted_fits = (admitted (admission_of (length s) (length issuer) profile) p s issuer e).2

  pub accepted_short : length s ≤ 8192
  unfolding judgement_of
  accepted_short =
      let a = admitted (admission_of (length s) (length issuer) profile) p s issuer e in
      (admitted_certificate (length s) (length issuer) profile a.0 a.1).1

-- ---- the profile

-- what is accepted is accepted for q
abbrev OnlyFor : Profile → Result Profile Refusal → Type 0
OnlyFor q (Err r) = Unit {0}
OnlyFor q (Ok p) = q ≡ p

verdict_only : (q : Profile) (side : Side) (v : Verdict) → OnlyFor q (by_verdict q side v)
verdict_only q side (Ok _) = refl
verdict_only q side (Err (Wrong place)) = tt
verdict_only q side (Err Stranger) = tt

sound_only : (q : Profile) (side : Side) (d : Soundness) (v : Verdict) → OnlyFor q (by_soundness q side d v)
sound_only q side (Ok _) v = verdict_only q side v
sound_only q side (Err (Unsound place)) v = tt
sound_only q side (Err (Unordered place)) v = tt

and_only : (q : Profile) (a b : Result Profile Refusal) → OnlyFor q b → OnlyFor q (result_and a b)
and_only q (Err r) b k = tt
and_only q (Ok p) b k = k

both_only : (q : Profile) (certificate issuer : List ℕ) → OnlyFor q (both_sides q certificate issuer)
unfolding both_sides side_judgement
both_only q certificate issuer =
    and_only q (side_judgement q Certificate certificate) (side_judgement q Issuer issuer)
    (sound_only q Issuer (der_soundness issuer) (certificate_verdict issuer))

abbrev OnlyAsked : Option Profile → Result Profile Refusal → Type 0
OnlyAsked asked (Err r) = Unit {0}
OnlyAsked asked (Ok p) = asked ≡ Some p

for_asked : (q : Profile) (j : Result Profile Refusal) → OnlyFor q j → OnlyAsked (Some q) j
for_asked q (Err r) k = tt
for_asked q (Ok p) k = ap Some k

judgement_asked : (s issuer : List ℕ) (profile : ℕ) → OnlyAsked (asked_of profile) (judgement_of s issuer profile)
unfolding judgement_of admission_of
judgement_asked s issuer profile = go (side_length_ok (length s)) (side_length_ok (length issuer)) (asked_of profile)
  where
    go : (a b : Bool) (asked : Option Profile)
        → OnlyAsked asked
        (once_admitted (cond a (cond b (for_profile asked) (Err IssuerLength)) (Err CertificateLength)) s issuer)
    go true true (Some q) = for_asked q (both_sides q s issuer) (both_only q s issuer)
    go true true None = tt
    go true false asked = tt
    go false b asked = tt

pub accepted_asked : (s issuer : List ℕ) (profile : ℕ) (p : Profile) → judgement_of s issuer profile ≡ Ok p → asked_of profile ≡ Some p
accepted_asked s issuer profile p e = subst (OnlyAsked (asked_of profile)) e (judgement_asked s issuer profile)
