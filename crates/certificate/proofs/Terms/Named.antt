-- That the fields are read where RFC 5280's grammar has them: `certificate_of` beside the members that asn's `Fields` names.
use mathlib.Core.Path.{◌≡◌}
use mathlib.Core.Bool.{Bool, true, false}
use mathlib.Core.List.{List, [], ◌∷◌, ◌++◌, Memᴰ}
use Prim.Native.Nat.{ℕ}
use lib.ListN.{length}
use Rattle.std.specs.Prelude.{Some}
use Rattle.certificate.specs.Fields.{certificate_of}
use Rattle.certificate.specs.Key.{key_of}
use Rattle.certificate.specs.Extensions.{slot_of, extension_of}
use Rattle.certificate.specs.declared.slots.Slot.{Slot}
use Rattle.asn.specs.Grammar.{fits}
use Rattle.asn.specs.Module.{boolean_true, bit_string, octet_string, object_identifier, extensions, value_of}
use Rattle.asn.proofs.Terms.Fields.{Optional, Outermost, TbsFields}
use Rattle.der.specs.Header.{children_of}
use Rattle.der.specs.Contents.{contents_of}
use Rattle.der.specs.Elements.{elements_of, is_empty}
use Rattle.der.specs.Soundness.{soundness, stretch_soundness}
use Rattle.der.specs.Tags.{sequence_tag}
use Rattle.der.specs.declared.header.Head.{Head}
use Rattle.times.specs.Reads.{time_of}
use Rattle.der.specs.Members.{members_in, missing, first_in}
use Rattle.std.specs.Prelude.{Ok}

-- the [0] comes first, if the version is written; else the serial number does
pub data VersionNamed (version serial : Head) : List Head → Type 0 where
  unwritten : version ≡ serial → VersionNamed version serial []
  written : {h : Head} → version ≡ h → VersionNamed version serial (h ∷ [])

-- the extension list is the one member of the [3]; a certificate without a [3] has none
pub data ExtensionsNamed (s : List ℕ) (list : Head) (end : ℕ) : List Head → Type 0 where
  without : list ≡ missing end → ExtensionsNamed s list end []
  listed : {h : Head} → members_in s h ≡ list ∷ [] → fits extensions s list ≡ Ok tt → ExtensionsNamed s list end (h ∷ [])

pub record Named (s : List ℕ) : Type 0 where
  pub outermost : Outermost s (children_of s 0 (length s))
  pub fields : TbsFields s (children_of s outermost.members.tbs.body outermost.members.tbs.end)
  pub tbs : (certificate_of s).tbs ≡ outermost.members.tbs
  pub outer : (certificate_of s).outer ≡ outermost.members.algorithm
  pub version : VersionNamed (certificate_of s).version (certificate_of s).serial fields.versions
  pub serial : (certificate_of s).serial ≡ fields.serial
  pub inner : (certificate_of s).inner ≡ fields.algorithm
  pub issuer : (certificate_of s).issuer ≡ fields.issuer
  pub period : (certificate_of s).period ≡ fields.period
  pub subject : (certificate_of s).subject ≡ fields.subject
  pub key : (certificate_of s).key ≡ fields.key
  pub extensions : ExtensionsNamed s (certificate_of s).extensions (certificate_of s).tbs.end fields.extended
  pub times : children_of s fields.period.body fields.period.end ≡ (certificate_of s).not_before ∷ (certificate_of s).not_after ∷ []
  pub before : time_of (certificate_of s).not_before.tag (contents_of s (certificate_of s).not_before) ≡ Some (certificate_of s).validity.not_before
  pub later : time_of (certificate_of s).not_after.tag (contents_of s (certificate_of s).not_after) ≡ Some (certificate_of s).validity.not_after

-- ---- an Extension

-- it is critical exactly if the BOOLEAN is written, which then is TRUE
pub data CriticalNamed : Bool → List Head → Type 0 where
  unmarked : CriticalNamed false []
  marked : {h : Head} → CriticalNamed true (h ∷ [])

pub record ExtensionNamed (s : List ℕ) (h : Head) : Type 0 where
  pub boolean : List Head
  pub tag : h.tag ≡ sequence_tag
  pub is : members_in s h ≡ first_in s h ∷ (boolean ++ ((extension_of s h).value ∷ []))
  pub identifier_fits : fits object_identifier s (first_in s h) ≡ Ok tt
  pub boolean_fits : Optional boolean_true s boolean
  pub value_fits : fits octet_string s (extension_of s h).value ≡ Ok tt
  pub critical : CriticalNamed (extension_of s h).critical boolean

-- every extension of a list
pub data AllNamed (s : List ℕ) : List Head → Type 0 where
  none : AllNamed s []
  more : {h : Head} {hs : List Head} → ExtensionNamed s h → AllNamed s hs → AllNamed s (h ∷ hs)

-- ---- a SubjectPublicKeyInfo

-- parameters that are not there are a head that is not sound
pub data ParametersNamed (parameters : Head) : List Head → Type 0 where
  lacking : parameters.sound ≡ false → ParametersNamed parameters []
  given : {h : Head} → parameters ≡ h → ParametersNamed parameters (h ∷ [])

pub record KeyNamed (s : List ℕ) (key : Head) : Type 0 where
  pub extra : List Head
  pub is : members_in s key ≡ (key_of s key).algorithm ∷ (key_of s key).bits ∷ []
  pub inner : children_of s (key_of s key).algorithm.body (key_of s key).algorithm.end ≡ first_in s (key_of s key).algorithm ∷ extra
  pub identifier_fits : fits object_identifier s (first_in s (key_of s key).algorithm) ≡ Ok tt
  pub bits_fits : fits bit_string s (key_of s key).bits ≡ Ok tt
  pub parameters : ParametersNamed (key_of s key).parameters extra

-- ---- the first extension in a slot, where there is one

pub record SlotNamed (s : List ℕ) (slot : ℕ) (list : Head) (v : Slot) : Type 0 where
  pub among : Memᴰ v.place (members_in s list)
  pub slot_is : slot_of s v.place ≡ slot
  pub critical_is : v.critical ≡ (extension_of s v.place).critical
  pub holder_is : v.holder ≡ (extension_of s v.place).value
  pub element_is : v.element ≡ first_in s v.holder

-- ---- a good value

-- The extension is there, and its OCTET STRING holds one element, which fills it, is sound with all that it holds, and is of its slot's type.
pub record ValueNamed (s : List ℕ) (slot : ℕ) (list : Head) (v : Slot) : Type 0 where
  pub there : is_empty v.place ≡ false
  pub named : SlotNamed s slot list v
  pub sound : v.holder.sound ≡ true
  pub filled : stretch_soundness s v.holder.body v.holder.end ≡ Ok tt
  pub alone : members_in s v.holder ≡ v.element ∷ []
  pub elements : soundness s (elements_of s 16 v.element) ≡ Ok tt
  pub element_fits : fits (value_of slot) s v.element ≡ Ok tt
