-- The elements of a certificate: those of document 01's "Sound DER", what fills an extension's value (340+s), and what fills the bits of an
-- RSA key (204).
use Rattle.std.specs.Prelude.{◌≡◌, true, List, ℕ, ◌+◌, length, Ok}
use Rattle.facts.specs.Kinds.{is_rsa}
use Rattle.octets.specs.Octets.{octet_at}
use Rattle.der.specs.Header.{head_of, children_of}
use Rattle.der.specs.Elements.{HeldFrom}
use Rattle.der.specs.Soundness.{stretch_soundness}
use Rattle.der.specs.Tags.{sequence_tag}
use Rattle.der.specs.declared.header.Head.{Head}
use Rattle.certificate.specs.Fields.{certificate_of}
use Rattle.certificate.specs.Key.{key_of}
use Rattle.certificate.specs.Extensions.{extension_of}
use Rattle.certificate.specs.declared.key.Key.{Key}
use Rattle.report.specs.Order.{In}

-- one element fills the octets from place at to end, and is sound with all that it holds, depths counted from 1
abbrev pub Fills : List ℕ → ℕ → ℕ → Type 0
Fills s at end = stretch_soundness s at end ≡ Ok tt

-- the Extensions in the certificate's list
abbrev pub extensions_of : List ℕ → List Head
extensions_of s = children_of s (certificate_of s).extensions.body (certificate_of s).extensions.end

abbrev pub subject_key : List ℕ → Key
subject_key s = key_of s (certificate_of s).key

-- the bits of a BIT STRING start behind the octet that counts the unused ones (X.690, 8.6.2)
abbrev pub bits_start : Head → ℕ
bits_start b = b.body + 1

-- b is the BIT STRING of an RSA key, "with 0 unused"
pub record RsaBits (s : List ℕ) (b : Head) : Type 0 where
  pub rsa : is_rsa (subject_key s).kind ≡ true
  pub is : b ≡ (subject_key s).bits
  pub unused : octet_at s b.body ≡ 0

-- an element that no other holds: it fills the octets, or those within a primitive element
pub data Topmost (s : List ℕ) : Head → Type 0 where
  -- "One outermost element fills the bytes"
  outermost : Topmost s (head_of s 0 (length s))
  -- an extension's value v "is .. exactly one sound element"
  in_value : {x v : Head} → In x (extensions_of s) → v ≡ (extension_of s x).value → Fills s v.body v.end
      → Topmost s (head_of s v.body v.end)
  -- the bits b are "exactly a sound SEQUENCE"
  in_bits : {b : Head} → RsaBits s b → Fills s (bits_start b) b.end → (head_of s (bits_start b) b.end).tag ≡ sequence_tag
      → Topmost s (head_of s (bits_start b) b.end)

-- an element of the octets s: "In a constructed one, an element holds a list of elements, each again such an element"
abbrev pub Element : List ℕ → Head → Type 0
Element s = HeldFrom s (Topmost s)
