-- What is accepted is sound DER.
--     accepted_sound      refusals 4 and 5 do not apply to a certificate that is accepted
-- Assumes nothing.
use mathlib.Core.Path.{◌≡◌, refl}
use mathlib.Core.List.{List}
use Prim.Native.Nat.{ℕ}
use lib.ListN.{length}
use Rattle.std.specs.Prelude.{Result, Ok, Err}
use Rattle.std.specs.Result.{result_and}
use Rattle.der.specs.Soundness.{der_soundness, Soundness}
use Rattle.asn.specs.Answers.{certificate_verdict}
use Rattle.profiles.specs.declared.fields.Profile.{Profile}
use Rattle.lint.specs.declared.reasons.Inadmissible.{Inadmissible}
use Rattle.lint.specs.Judging.{by_soundness, side_judgement, both_sides, admission_of, once_admitted, judgement_of}
use Rattle.lint.specs.declared.reasons.Refusal.{Refusal}
use Rattle.lint.specs.declared.reasons.Side.TheVariants.{Certificate}
use Rattle.der.specs.declared.walk.Fault.TheVariants.{Unsound, Unordered}
use Rattle.asn.specs.Grammar.{Verdict}

module _ (p : Profile) where
  side_sound : (q : Profile) (d : Soundness) (v : Verdict) (other : Result Profile Refusal)
      → result_and (by_soundness q Certificate d v) other ≡ Ok p → d ≡ Ok tt
  side_sound q (Ok _) v other e = refl
  side_sound q (Err (Unsound place)) v other e = cc
  side_sound q (Err (Unordered place)) v other e = cc

  once_sound : (admission : Result Profile Inadmissible) (s issuer : List ℕ) → once_admitted admission s issuer ≡ Ok p → der_soundness s ≡ Ok tt
  unfolding both_sides side_judgement
  once_sound (Err r) s issuer e = cc
  once_sound (Ok q) s issuer e = side_sound q (der_soundness s) (certificate_verdict s) _ e

  pub accepted_sound : (s issuer : List ℕ) (profile : ℕ) → judgement_of s issuer profile ≡ Ok p → der_soundness s ≡ Ok tt
  unfolding judgement_of
  accepted_sound s issuer profile e = once_sound (admission_of (length s) (length issuer) profile) s issuer e
