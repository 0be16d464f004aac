-- As the code has it: for each slot of document 01's table the first extension in it, and what is read of it. Rules go by how an extension stands
-- (`Standing`), and `standing_is` joins the two.
use Rattle.std.specs.Prelude.{List, [], ◌∷◌, map, Bool, false, not, ◌&&◌, ℕ, zero, suc, ◌+◌, eqb}
use Rattle.certificate.specs.Extensions.{extension_of, slot_of, seen_before}
use Rattle.certificate.specs.declared.slots.Slot.{Slot}
use Rattle.certificate.specs.declared.slots.SlotTable.{SlotTable}
use Rattle.der.specs.Elements.{any_of, first_of, is_empty}
use Rattle.der.specs.Members.{members_in, first_in}
use Rattle.der.specs.declared.header.Head.{Head}
use Rattle.asn.specs.Answers.{value_ok}

-- n numbers from k on
unfoldable pub numbers_from : ℕ → ℕ → List ℕ
numbers_from k zero = []
numbers_from k (suc n) = k ∷ numbers_from (k + 1) n

-- slot 0, for identifiers that the table does not have, and 1 to 11
abbrev pub slot_count : ℕ
slot_count = 12

abbrev pub by_slot : {A : Type 0} → (ℕ → A) → List A
by_slot f = map f (numbers_from 0 slot_count)

-- the first extension in a slot, of a list that ends at end; missing there if there is none
unfoldable pub first_in_slot : List ℕ → ℕ → List Head → ℕ → Head
first_in_slot s end hs slot = first_of (λ h. eqb (slot_of s h) slot) end hs

-- 340+s "value exactly one sound element of its RFC ASN.1", of an extension that is there; slot 0 has no type
abbrev pub is_good : List ℕ → ℕ → Head → Head → Bool
is_good s slot place holder = (not (eqb slot 0) && not (is_empty place)) && value_ok s slot holder.body holder.end

-- what is read of the first extension in a slot
unfoldable pub slot_from : List ℕ → ℕ → Head → Slot
slot_from s slot h =
    record {
      place = h;
      critical = (extension_of s h).critical;
      holder = (extension_of s h).value;
      element = first_in s (extension_of s h).value;
      good = is_good s slot h (extension_of s h).value;
    }

-- of a SEQUENCE OF Extension
unfoldable pub slots_of : List ℕ → Head → List Slot
slots_of s list = by_slot (λ slot. slot_from s slot (first_in_slot s list.end (members_in s list) slot))

-- 361 is broken: some extension has an identifier seen before
unfoldable pub has_repeats : List ℕ → Head → Bool
has_repeats s list = any_of (seen_before s list.body) (members_in s list)

unfoldable pub read_slots : List ℕ → Head → SlotTable
read_slots s list = record { each = slots_of s list; repeated = has_repeats s list }

-- an entry for none
abbrev pub empty_slot : Head → Slot
empty_slot none = record { place = none; critical = false; holder = none; element = none; good = false }
