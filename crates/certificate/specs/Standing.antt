-- How an extension of document 01's table stands in a certificate ("Rules on extensions"): "other rules see the first only", and its value is good if it is
-- "exactly one sound element of its RFC ASN.1". All rules on extensions, 300+s to 424 and 120, go by this.
use Rattle.std.specs.Prelude.{List, [], ◌∷◌, map, cond, ℕ, ◌-◌, get_or}
use Rattle.octets.specs.Same.{same_by, exactly}
use Rattle.der.specs.Elements.{is_empty}
use Rattle.der.specs.Members.{members_in, first_in}
use Rattle.der.specs.declared.header.Head.{Head}
use Rattle.asn.specs.Answers.{value_ok}
use Rattle.certificate.specs.Extensions.{identifier_of, extension_of, identifiers}
use Rattle.certificate.specs.Slots.{numbers_from, slot_count}
use Rattle.certificate.specs.declared.extensions.Extension.{Extension}
use Rattle.certificate.specs.declared.slots.Slot.{Slot}

-- it is missing; or the Extension is there and fails 340+s; or it is there, and its value is this element
pub data Standing : Type 0 where
  missing : Standing
  bad : Extension → Standing
  good : Extension → Head → Standing

-- an Extension whose value is to be of the type of slot k
abbrev pub by_value : List ℕ → ℕ → Extension → Standing
by_value s k x = cond (value_ok s k x.value.body x.value.end) (Standing.good x (first_in s x.value)) (Standing.bad x)

-- the first of these Extensions that has the identifier, if one has it
unfoldable pub first_with : List ℕ → ℕ → List ℕ → List Head → Standing
first_with s k identifier [] = Standing.missing
first_with s k identifier (h ∷ hs) = cond (same_by exactly (identifier_of s h) identifier) (by_value s k (extension_of s h)) (first_with s k identifier hs)

-- the identifier of slot k, from 1 on
abbrev pub identifier_at : ℕ → List ℕ
identifier_at k = get_or identifiers (k - 1) []

-- the extension in slot k, of a SEQUENCE OF Extension
unfoldable pub standing_in : List ℕ → Head → ℕ → Standing
standing_in s list k = first_with s k (identifier_at k) (members_in s list)

-- ---- of the whole table

-- the standings of slots 1, 2 and on to the table's end
abbrev pub over_table : (ℕ → Standing) → List Standing
over_table standing = map standing (numbers_from 1 (slot_count - 1))

-- that of slot k; what is not in the table is missing
abbrev pub standing_at : List Standing → ℕ → Standing
standing_at table k = get_or (Standing.missing ∷ table) k Standing.missing

-- ---- as the code has it: an entry that is not good is missing if its place is empty

abbrev pub extension_by : Slot → Extension
extension_by v = record { place = v.place; critical = v.critical; value = v.holder }

abbrev pub standing_by : Slot → Standing
standing_by v =
    cond v.good (Standing.good (extension_by v) v.element)
    (cond (is_empty v.place) Standing.missing (Standing.bad (extension_by v)))

-- what stands in a slot of the code's table
abbrev pub standings_by : (ℕ → Slot) → List Standing
standings_by slot = over_table (λ k. standing_by (slot k))
