-- Demand 2 (document 00): "A certificate and issuer that are not refused get exactly the findings that the federal profile documents, RFC 5280 and X.690 call
-- for, as the rules fix them: each broken rule, once for each offending item, with the field or, for an absence, the enclosing structure; none besides. An
-- empty report means that no judged rule is broken. A record written to the deck reads back as it was."
--
-- Of any answer r, and any room `last` after the call, that the linter's contract (`Answered`) allows.
use Rattle.std.specs.Prelude.{true, List, [], ◌↔◌, ◌≡◌, ℕ, ◌*◌, ◌<◌, get_or, drop, Ok, Result, Some}
use Rattle.der.specs.declared.header.Head.{Head}
use Rattle.profiles.specs.Fields.{asked_of}
use Rattle.profiles.specs.Judged.{judged_by}
use Rattle.profiles.specs.declared.fields.Profile.{Profile}
use Rattle.certificate.specs.Issuer.{known_of}
use Rattle.report.specs.Entries.{width, decode}
use Rattle.report.specs.Order.{In, RisingEntries, EntriesLevelled}
use Rattle.report.specs.Rows.{Row, BrokenIn}
use Rattle.report.specs.declared.sink.Entry.{Entry}
use Rattle.rules.specs.Rules.{rules_for}
use Rattle.lint.specs.declared.reasons.Refusal.{Refusal}
use Rattle.lint.specs.Answers.{Answered}
use Rattle.places.specs.Statement.{AtElements}
use Rattle.recovery.specs.Submitted.{Submitted}
use Rattle.recovery.specs.Statements.{ReadsBack}

-- the rules for a certificate, each with the items that break it
abbrev pub rules_on : Profile → List ℕ → List ℕ → List Row
rules_on p certificate issuer = rules_for p certificate (known_of issuer)

-- some rule of these is judged in the profile, bears the entry's number and is broken at its item
abbrev pub SaysBroken : Profile → List Row → Entry → Type 0
SaysBroken p rules e = (r : Row) × In r rules × ((h : Head) × BrokenIn p e r h)

-- the report of n entries that the room `last` begins with, where the room was `room`
pub record ExactReport (p : Profile) (certificate issuer room : List ℕ) (n : ℕ) (last : List ℕ) : Type 0 where
  -- "exactly the findings .., none besides"
  pub exactly : (e : Entry) → In e (decode n last) ↔ SaysBroken p (rules_on p certificate issuer) e
  -- "each broken rule, once for each offending item": "entries rise by rule, then start; no two are equal" (document 01)
  pub rising : RisingEntries (decode n last)
  pub once : (i j : ℕ) (d : Entry) → i < j → j < n → get_or (decode n last) i d ≡ get_or (decode n last) j d → ⊥
  -- "with the field or, for an absence, the enclosing structure": each at an element of the certificate, by its start and whole length
  pub elements : AtElements certificate (decode n last)
  -- "Every entry gets a fourth pair of octets: 1 for must, 2 for should" (document 02, CR 3): each has its rule's level
  pub levels : EntriesLevelled (decode n last)
  -- "an empty report means that no judged rule is broken", and it "speaks of should rules too" (CR 3): of any level
  pub empty : (n ≡ 0) ↔ ((r : Row) → In r (rules_on p certificate issuer) → judged_by p r.profiles ≡ true → r.broken ≡ [])
  -- "bytes after the last are untouched" (document 01)
  pub rest : drop (width * n) last ≡ drop (width * n) room

pub record Demand2 : Type 0 where
  -- what is not refused is answered with a report, for the profile of that number
  pub report : (certificate issuer : List ℕ) (profile : ℕ) (room : List ℕ) (r : Result ℕ Refusal) (n : ℕ) (last : List ℕ)
      → Answered certificate issuer profile room r last → r ≡ Ok n
      → (p : Profile) × (asked_of profile ≡ Some p) × ExactReport p certificate issuer room n last
  pub reads_back : (number : ℕ) (s : Submitted) → ReadsBack number s
