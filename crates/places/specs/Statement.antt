-- "An entry is rule, start, whole length of the element (header included) ..; a place is a start and a length in the certificate"
-- (document 01, "The report"). It is proved in proofs/Laws/Theorem.antt: `places`.
use Rattle.std.specs.Prelude.{◌≡◌, true, List, ℕ, ◌-◌, Ok}
use Rattle.facts.specs.Elements.{Element}
use Rattle.der.specs.Contents.{element_ok}
use Rattle.der.specs.declared.header.Head.{Head}
use Rattle.profiles.specs.declared.fields.Profile.{Profile}
use Rattle.report.specs.Entries.{decode}
use Rattle.report.specs.Order.{In}
use Rattle.report.specs.declared.sink.Entry.{Entry}
use Rattle.rules.specs.Rules.{findings}
use Rattle.lint.specs.Judging.{judgement_of}
use Rattle.lint.specs.Answers.{answer_of, room_of}

-- the place of an entry is that of an element: its start, and its whole length
pub record AtElement (s : List ℕ) (e : Entry) : Type 0 where
  pub element : Head
  pub is : Element s element
  pub start : e.place.start ≡ element.at
  pub whole : e.place.len ≡ element.end - element.at

-- every entry of a list
pub record AtElements (s : List ℕ) (es : List Entry) : Type 0 where
  pub each : (e : Entry) → In e es → AtElement s e

-- its header is sound, and its universal type is kept
pub record SoundElement (s : List ℕ) (h : Head) : Type 0 where
  pub header : h.sound ≡ true
  pub contents : element_ok s h ≡ true

-- of a certificate s that refusals 1 to 6 leave alone
pub record Places (s issuer : List ℕ) (profile : ℕ) : Type 0 where
  pub findings_elements : (p : Profile) → judgement_of s issuer profile ≡ Ok p → AtElements s (findings p s issuer)
  pub elements_sound : (p : Profile) → judgement_of s issuer profile ≡ Ok p → (h : Head) → Element s h → SoundElement s h
  -- the same of the linter's answer: the n entries that the room then says
  pub report_elements : (room : List ℕ) (n : ℕ) → answer_of s issuer profile room ≡ Ok n
      → AtElements s (decode n (room_of s issuer profile room))
