-- What the statements about whole answers speak of.
use Rattle.std.specs.Prelude.{true, List, ◌≡◌, ℕ, ◌<◌, length, Ok}
use Rattle.lint.specs.Judging.{side_length_ok}
use Rattle.lint.specs.declared.reasons.Side.{Side}
use Rattle.lint.specs.declared.reasons.Side.TheVariants.{Certificate, Issuer}
use Rattle.lint.specs.declared.reasons.Refusal.{Refusal}
use Rattle.der.specs.Elements.{ElementStart}
use Rattle.der.specs.Soundness.{der_soundness}
use Rattle.asn.specs.Answers.{certificate_verdict}
use Rattle.lint.specs.declared.reasons.Refusal.TheVariants as Refusals

-- a side that refusals 1, 2, 4, 5 and 6 leave alone
pub record Acceptable (s : List ℕ) : Type 0 where
  pub sized : side_length_ok (length s) ≡ true
  pub sound : der_soundness s ≡ Ok tt
  pub fits : certificate_verdict s ≡ Ok tt

-- the octets of a side
abbrev pub side_octets : List ℕ → List ℕ → Side → List ℕ
side_octets certificate issuer Certificate = certificate
side_octets certificate issuer Issuer = issuer

-- "a start within its side": the start of an element of the side, and so a place that the side has
pub record StartWithin (s : List ℕ) (place : ℕ) : Type 0 where
  pub starts : ElementStart s place
  pub inside : place < length s

-- "A refusal's place is a start within its side." 4, 5 and 6 alone look into a side; the place of the others is 0.
abbrev pub WithinSide : List ℕ → List ℕ → Refusal → Type 0
WithinSide certificate issuer (Refusals.Unsound side place) = StartWithin (side_octets certificate issuer side) place
WithinSide certificate issuer (Refusals.Unordered side place) = StartWithin (side_octets certificate issuer side) place
WithinSide certificate issuer (Refusals.NotCertificate side place) = StartWithin (side_octets certificate issuer side) place
WithinSide certificate issuer (Refusals.Inadmissible r) = Unit {0}
WithinSide certificate issuer Refusals.NoRoom = Unit {0}
