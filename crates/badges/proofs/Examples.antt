-- Worked examples of the definitions, by computation: what each value says is beside it. Assumes nothing.
use mathlib.Core.Path.{◌≡◌, refl}
use mathlib.Core.List.{List, [], ◌∷◌, map}
use mathlib.Core.Bool.{Bool, true, false}
use Prim.Native.Nat.{ℕ, ◌+◌}
use Prim.Native.String.{String}
use lib.ListN.{length}
use Rattle.badges.specs.Uuids.{has_form, is_uuid_uri}
use Rattle.badges.specs.Cards.{is_fasc_n}
use Rattle.texts.specs.Texts.{word}
use Rattle.octets.specs.Octets.{octets_from}
use Rattle.octets.specs.Numbers.{number_from}
use Rattle.octets.specs.Same.{same_by}
use Rattle.der.specs.Comparing.{contents_are}
use Rattle.der.specs.Header.{head_of}
use Rattle.der.specs.Oids.{sevens, subidentifier, subidentifiers, oid}
use Rattle.der.specs.declared.header.Head.{Head}

-- what is said, and what is right
pub record Example : Type 0 where
  pub said : Bool
  pub right : Bool

abbrev is : Bool → Bool → Example
is b r = record { said = b; right = r }

abbrev Right : List Example → Type 0
Right es = map (λ (e : Example). e.said) es ≡ map (λ (e : Example). e.right) es

-- the element that a value's octets are
abbrev whole : List ℕ → Head
whole s = head_of s 0 (length s)

-- ---- UUIDs

-- a name with this tag that says the text
abbrev named : ℕ → String → List ℕ
named tag text = tag ∷ length (word text) ∷ word text

-- whether a uniformResourceIdentifier is 508's name; whether a dNSName is
abbrev uri : String → Bool
uri text = is_uuid_uri (named 134 text) (whole (named 134 text))

abbrev host : String → Bool
host text = is_uuid_uri (named 130 text) (whole (named 130 text))

unfoldable pub names : List Example
names =
    -- RFC 4122's example, in lower case; its digits in upper case; "urn" and "uuid" too
    is (uri "urn:uuid:f81d4fae-7dec-11d0-a765-00a0c91e6bf6") true
    ∷ is (uri "urn:uuid:F81D4FAE-7DEC-11D0-A765-00A0C91E6BF6") true
    ∷ is (uri "URN:UUID:f81d4fae-7dec-11d0-a765-00a0c91e6bf6") true
    ∷ is (uri "Urn:uUid:F81d4fAe-7dec-11D0-A765-00a0c91e6bf6") true
    -- no version or variant is asked for
    ∷ is (uri "urn:uuid:00000000-0000-0000-0000-000000000000") true
    ∷ is (uri "urn:uuid:ffffffff-ffff-ffff-ffff-ffffffffffff") true
    -- no hyphens; as many octets, but none; one shifted
    ∷ is (uri "urn:uuid:f81d4fae7dec11d0a76500a0c91e6bf6") false
    ∷ is (uri "urn:uuid:f81d4fae07dec011d00a765000a0c91e6bf6") false
    ∷ is (uri "urn:uuid:f81d4fa-e7dec-11d0-a765-00a0c91e6bf6") false
    -- a digit less; one more; one that is none, in both cases; the form itself
    ∷ is (uri "urn:uuid:f81d4fae-7dec-11d0-a765-00a0c91e6bf") false
    ∷ is (uri "urn:uuid:f81d4fae-7dec-11d0-a765-00a0c91e6bf60") false
    ∷ is (uri "urn:uuid:g81d4fae-7dec-11d0-a765-00a0c91e6bf6") false
    ∷ is (uri "urn:uuid:f81d4fae-7dec-11d0-a765-00a0c91e6bfG") false
    ∷ is (uri "urn:uuid:xxxxxxxx-xxxx-xxxx-xxxx-xxxxxxxxxxxx") false
    -- the characters before and after the digits and the letters: / : @ ` (octets 47, 58, 64, 96)
    ∷ is (uri "urn:uuid:/81d4fae-7dec-11d0-a765-00a0c91e6bf6") false
    ∷ is (uri "urn:uuid::81d4fae-7dec-11d0-a765-00a0c91e6bf6") false
    ∷ is (uri "urn:uuid:@81d4fae-7dec-11d0-a765-00a0c91e6bf6") false
    ∷ is (uri "urn:uuid:`81d4fae-7dec-11d0-a765-00a0c91e6bf6") false
    -- the UUID alone; another namespace; nothing
    ∷ is (uri "f81d4fae-7dec-11d0-a765-00a0c91e6bf6") false
    ∷ is (uri "urn:uuie:f81d4fae-7dec-11d0-a765-00a0c91e6bf6") false
    ∷ is (uri "") false
    -- a dNSName that says one
    ∷ is (host "urn:uuid:f81d4fae-7dec-11d0-a765-00a0c91e6bf6") false
    ∷ []

pub names_right : Right names
unfolding names has_form word head_of octets_from number_from
names_right = refl

-- ---- FASC-N

-- a name with this tag: a type, 2.16.840.1.101.3.6 and an arc below it, and in [0] a value, all of them below 128 octets
abbrev card : ℕ → ℕ → List ℕ → List ℕ
card tag arc value =
    tag ∷ (12 + length value) ∷ 6 ∷ 8 ∷ 0x60 ∷ 0x86 ∷ 0x48 ∷ 1 ∷ 0x65 ∷ 3 ∷ 6 ∷ arc ∷ 0xA0 ∷ length value ∷ value

abbrev fasc : List ℕ → Bool
fasc s = is_fasc_n s (whole s)

unfoldable pub cards : List Example
cards =
    -- an OCTET STRING of 25 octets, as FASC-Ns are; of one; an empty one
    is (fasc (card 0xA0 6 (4 ∷ 25 ∷ octets_from [] 0 25))) true
    ∷ is (fasc (card 0xA0 6 (4 ∷ 1 ∷ 0xD1 ∷ []))) true
    ∷ is (fasc (card 0xA0 6 (4 ∷ 0 ∷ []))) true
    -- a UTF8String; an OCTET STRING in another one; no value
    ∷ is (fasc (card 0xA0 6 (12 ∷ 1 ∷ 0x41 ∷ []))) false
    ∷ is (fasc (card 0xA0 6 (0x24 ∷ 2 ∷ 4 ∷ 0 ∷ []))) false
    ∷ is (fasc (card 0xA0 6 [])) false
    -- another type; ediPartyName, [5]; directoryName, [4]; [0] that holds no elements
    ∷ is (fasc (card 0xA0 7 (4 ∷ 1 ∷ 0xD1 ∷ []))) false
    ∷ is (fasc (card 0xA5 6 (4 ∷ 1 ∷ 0xD1 ∷ []))) false
    ∷ is (fasc (card 0xA4 6 (4 ∷ 1 ∷ 0xD1 ∷ []))) false
    ∷ is (fasc (card 0x80 6 (4 ∷ 1 ∷ 0xD1 ∷ []))) false
    -- the type alone; a type below it
    ∷ is (fasc (0xA0 ∷ 10 ∷ 6 ∷ 8 ∷ 0x60 ∷ 0x86 ∷ 0x48 ∷ 1 ∷ 0x65 ∷ 3 ∷ 6 ∷ 6 ∷ [])) false
    ∷ is (fasc (0xA0 ∷ 15 ∷ 6 ∷ 9 ∷ 0x60 ∷ 0x86 ∷ 0x48 ∷ 1 ∷ 0x65 ∷ 3 ∷ 6 ∷ 6 ∷ 1 ∷ 0xA0 ∷ 2 ∷ 4 ∷ 0 ∷ [])) false
    ∷ []

pub cards_right : Right cards
unfolding cards contents_are same_by head_of octets_from number_from oid subidentifiers subidentifier sevens
cards_right = refl
