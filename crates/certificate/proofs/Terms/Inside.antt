-- Where an element lies: what is read of a certificate stays within its octets.
use mathlib.Core.List.{List, [], ◌∷◌}
use Prim.Native.Nat.{ℕ, ◌≤◌}
use lib.ListN.{length}
use Rattle.certificate.specs.declared.fields.Certificate.{Certificate}
use Rattle.certificate.specs.declared.key.Key.{Key}
use Rattle.der.specs.declared.header.Head.{Head}

-- an element that starts at from or later, and ends at to or earlier
pub record Between (from to : ℕ) (h : Head) : Type 0 where
  pub starts : from ≤ h.at
  pub holds : h.at ≤ h.body
  pub forward : h.body ≤ h.end
  pub ends : h.end ≤ to

-- an element of a side
abbrev pub LiesIn : List ℕ → Head → Type 0
LiesIn s h = Between 0 (length s) h

-- the fields of a certificate
pub record FieldsInside (s : List ℕ) (c : Certificate) : Type 0 where
  pub tbs : LiesIn s c.tbs
  pub version : LiesIn s c.version
  pub serial : LiesIn s c.serial
  pub inner : LiesIn s c.inner
  pub issuer : LiesIn s c.issuer
  pub period : LiesIn s c.period
  pub before : LiesIn s c.not_before
  pub later : LiesIn s c.not_after
  pub subject : LiesIn s c.subject
  pub key : LiesIn s c.key
  pub extensions : LiesIn s c.extensions
  pub outer : LiesIn s c.outer

-- the parts of a key
pub record KeyInside (s : List ℕ) (k : Key) : Type 0 where
  pub algorithm : LiesIn s k.algorithm
  pub parameters : LiesIn s k.parameters
  pub bits : LiesIn s k.bits

-- every element of a list
pub data AllBetween (from to : ℕ) : List Head → Type 0 where
  none : AllBetween from to []
  more : {h : Head} {hs : List Head} → Between from to h → AllBetween from to hs → AllBetween from to (h ∷ hs)

abbrev pub AllInside : List ℕ → List Head → Type 0
AllInside s hs = AllBetween 0 (length s) hs
