-- "The issuer counts only by its subject name and its key identifier" (document 01, "The report").
use Rattle.std.specs.Prelude.{List, ℕ, cond, Option, Some, None, Result, Ok, Err}
use Rattle.std.specs.Result.{result_ok}
use Rattle.std.specs.Option.{option_map}
use Rattle.certificate.specs.Fields.{certificate_of}
use Rattle.certificate.specs.Slots.{first_in_slot, slot_from}
use Rattle.certificate.specs.Standing.{Standing, standing_in}
use Rattle.certificate.specs.declared.issuer.Issuer.{Issuer}
use Rattle.certificate.specs.declared.slots.Slot.{Slot}
use Rattle.der.specs.Contents.{contents_of}
use Rattle.der.specs.Members.{members_in}
use Rattle.der.specs.Order.{octets_of}
use Rattle.der.specs.declared.header.Head.{Head}

-- what counts of an issuer
pub record Known : Type 0 where
  pub name : List ℕ
  -- the key identifier, if it has one
  pub key : Option (List ℕ)

-- "the issuer's subject key id (.. the issuer has none, or a bad one)": the contents of the OCTET STRING. "Of repeated ones the first counts, good or bad."
abbrev pub key_identifier_in : List ℕ → Standing → Option (List ℕ)
key_identifier_in octets Standing.missing = None
key_identifier_in octets (Standing.bad x) = None
key_identifier_in octets (Standing.good x v) = Some (contents_of octets v)

-- slot 3 is the subject key id
unfoldable pub known_of : List ℕ → Known
known_of octets =
    record {
      name = octets_of octets (certificate_of octets).subject;
      key = key_identifier_in octets (standing_in octets (certificate_of octets).extensions 3);
    }

-- ---- as the code has it

-- the entry for slot 3
unfoldable pub key_id_in : List ℕ → Head → Slot
key_id_in i list = slot_from i 3 (first_in_slot i list.end (members_in i list) 3)

-- the element of a slot, and as an error one that is missing or bad
abbrev pub element_in : Slot → Result Head Head
element_in slot = cond slot.good (Ok slot.element) (Err slot.element)

unfoldable pub issuer_of : List ℕ → Issuer
issuer_of i =
    record {
      name = (certificate_of i).subject;
      key_id = element_in (key_id_in i (certificate_of i).extensions);
    }

-- the contents of the OCTET STRING, if there is a good one
abbrev pub key_identifier_of : List ℕ → Option Head → Option (List ℕ)
key_identifier_of octets h = option_map (contents_of octets) h

abbrev pub known : List ℕ → Issuer → Known
known octets i = record { name = octets_of octets i.name; key = key_identifier_of octets (result_ok i.key_id) }
