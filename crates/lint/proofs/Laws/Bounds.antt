-- Bounds of what an answer says.
--     refusal_inside        "a refusal's place is a start within its side", that of an element
--     refusal_low           so it is below 8,192
--     inadmissible_nowhere  the place of refusals 1, 2 and 3 is 0
--     count_fits            as many findings as are counted have room
-- Assumes nothing.
use mathlib.Core.Path.{◌≡◌, refl, subst}
use mathlib.Core.List.{List}
use mathlib.Core.Bool.{Bool, true, false, cond}
use Prim.Native.Nat.{ℕ, ◌*◌, ◌≤◌, ◌<◌}
use native.Mathlib.Nat.{lt_of_lt_of_le}
use native.Mathlib.Omega.{arith}
use lib.ListN.{length}
use borrow.Author.Tests.{leb-true}
use Rattle.std.specs.Prelude.{Result, Ok, Err}
use Rattle.std.specs.Result.{result_and}
use Rattle.lint.specs.Refusals.{inadmissible_values, refusal_values}
use Rattle.lint.specs.Judging.{by_soundness, side_judgement, both_sides, admission_of, once_admitted, judgement_of}
use Rattle.lint.specs.Answers.{answer_to, answer_by, answer_of}
use Rattle.lint.specs.Statements.{side_octets, StartWithin, WithinSide}
use Rattle.lint.specs.declared.reasons.Side.{Side}
use Rattle.lint.specs.declared.reasons.Side.TheVariants.{Certificate, Issuer}
use Rattle.lint.specs.declared.reasons.Inadmissible.{Inadmissible}
use Rattle.lint.specs.declared.reasons.Inadmissible.TheVariants.{CertificateLength, IssuerLength, UnknownProfile}
use Rattle.lint.specs.declared.reasons.Refusal.{Refusal}
use Rattle.der.specs.Soundness.{der_soundness, soundness_place, Soundness}
use Rattle.der.specs.Elements.{ElementStart}
use Rattle.der.proofs.Laws.Places.{start_inside, fault_start}
use Rattle.der.proofs.Laws.Walks.{sound_stretch}
use Rattle.asn.specs.Answers.{certificate_verdict, verdict_place}
use Rattle.asn.proofs.Laws.Places.{departure_start}
use Rattle.profiles.specs.declared.fields.Profile.{Profile}
use Rattle.report.specs.Entries.{width}
use Rattle.report.specs.Answers.{enough_room}
use Rattle.report.specs.declared.sink.Entry.{Entry}
use Rattle.rules.specs.Rules.{findings}
use Rattle.lint.proofs.Laws.Accepted.{admitted_certificate, admitted_issuer}
use Rattle.lint.specs.declared.reasons.Refusal.TheVariants as Refusals
use Rattle.der.specs.declared.walk.Fault.TheVariants.{Unsound, Unordered}
use Rattle.asn.specs.Grammar.{Verdict}
use Rattle.asn.specs.declared.fitting.Misfit.TheVariants.{Stranger, Wrong}

-- ---- refusals 1, 2 and 3

pub inadmissible_nowhere : (r : Inadmissible) → (inadmissible_values r).place ≡ 0
inadmissible_nowhere CertificateLength = refl
inadmissible_nowhere IssuerLength = refl
inadmissible_nowhere UnknownProfile = refl

-- ---- all refusals of a call

module _ (certificate issuer : List ℕ) where
  record Placed (r : Refusal) : Type 0 where
    within : WithinSide certificate issuer r
    low : (refusal_values r).place < 8192

  abbrev PlacedBy : Result Profile Refusal → Type 0
  PlacedBy (Err r) = Placed r
  PlacedBy (Ok p) = Unit {0}

  -- 4, 5 and 6: the outermost element of sound octets fills them
  module _ (p : Profile) (side : Side) (l : 1 ≤ length (side_octets certificate issuer side)) (m : length (side_octets certificate issuer side) ≤ 8192) where
    abbrev octets : List ℕ
    octets = side_octets certificate issuer side

    starting : {place : ℕ} → ElementStart octets place → StartWithin octets place
    starting k = record { starts = k; inside = start_inside octets l k }

    low : {place : ℕ} → StartWithin octets place → place < 8192
    low k = lt_of_lt_of_le k.inside m

    side_placed : PlacedBy (side_judgement p side octets)
    unfolding side_judgement
    side_placed =
        go (der_soundness octets) (certificate_verdict octets) (starting (fault_start octets))
        (λ e. starting (departure_start octets l (sound_stretch octets 0 (length octets) e).0)) refl
      where
        go : (d : Soundness) (v : Verdict) → StartWithin octets (soundness_place d) → (der_soundness octets ≡ Ok tt → StartWithin octets (verdict_place v))
            → der_soundness octets ≡ d → PlacedBy (by_soundness p side d v)
        go (Ok _) (Ok _) f g e = tt
        go (Ok _) (Err (Wrong place)) f g e = record { within = g e; low = low (g e) }
        go (Ok _) (Err Stranger) f g e = record { within = g e; low = low (g e) }
        go (Err (Unsound place)) v f g e = record { within = f; low = low f }
        go (Err (Unordered place)) v f g e = record { within = f; low = low f }

  first_placed : (a b : Result Profile Refusal) → PlacedBy a → PlacedBy b → PlacedBy (result_and a b)
  first_placed (Err r) b k l = k
  first_placed (Ok p) b k l = l

  both_placed : (p : Profile) → (1 ≤ length certificate) × (length certificate ≤ 8192) → (1 ≤ length issuer) × (length issuer ≤ 8192)
      → PlacedBy (both_sides p certificate issuer)
  unfolding both_sides
  both_placed p k l =
      first_placed (side_judgement p Certificate certificate) (side_judgement p Issuer issuer) (side_placed p Certificate k.0 k.1)
      (side_placed p Issuer l.0 l.1)

  judgement_placed : (profile : ℕ) → PlacedBy (judgement_of certificate issuer profile)
  unfolding judgement_of
  judgement_placed profile = go (admission_of (length certificate) (length issuer) profile) refl
    where
      go : (a : Result Profile Inadmissible) → admission_of (length certificate) (length issuer) profile ≡ a → PlacedBy (once_admitted a certificate issuer)
      go (Err r) e = record { within = tt; low = omega (arith, inadmissible_nowhere r) }
      go (Ok p) e = both_placed p (admitted_certificate _ _ _ p e) (admitted_issuer _ _ _ p e)

  abbrev PlacedIn : Result ℕ Refusal → Type 0
  PlacedIn (Err r) = Placed r
  PlacedIn (Ok n) = Unit {0}

  -- 7
  answer_placed : (es : List Entry) (room : List ℕ) → PlacedIn (answer_to es room)
  unfolding answer_to
  answer_placed es room = go (enough_room es room)
    where
      go : (b : Bool) → PlacedIn (cond b (Ok (length es)) (Err Refusals.NoRoom))
      go true = tt
      go false = record { within = tt; low = omega arith }

  module _ (profile : ℕ) (room : List ℕ) (r : Refusal) (e : answer_of certificate issuer profile room ≡ Err r) where
    placed : Placed r
    unfolding answer_of
    placed = subst PlacedIn e (go (judgement_of certificate issuer profile) (judgement_placed profile))
      where
        go : (j : Result Profile Refusal) → PlacedBy j → PlacedIn (answer_by j certificate issuer room)
        go (Err q) k = k
        go (Ok p) k = answer_placed (findings p certificate issuer) room

    pub refusal_inside : WithinSide certificate issuer r
    refusal_inside = placed.within

    pub refusal_low : (refusal_values r).place < 8192
    refusal_low = placed.low

-- ---- findings

abbrev FitsIn : ℕ → Result ℕ Refusal → Type 0
FitsIn room (Ok n) = width * n ≤ room
FitsIn room (Err r) = Unit {0}

pub count_fits : (certificate issuer : List ℕ) (profile : ℕ) (room : List ℕ) (n : ℕ) → answer_of certificate issuer profile room ≡ Ok n
    → width * n ≤ length room
unfolding answer_of answer_to
count_fits certificate issuer profile room n e = subst (FitsIn (length room)) e (go (judgement_of certificate issuer profile))
  where
    counted : (es : List Entry) (b : Bool) → enough_room es room ≡ b → FitsIn (length room) (cond b (Ok (length es)) (Err Refusals.NoRoom))
    counted es true t = leb-true _ _ t
    counted es false t = tt

    go : (j : Result Profile Refusal) → FitsIn (length room) (answer_by j certificate issuer room)
    go (Err r) = tt
    go (Ok p) = counted (findings p certificate issuer) (enough_room (findings p certificate issuer) room) refl
