-- Values of the universal types that X.690 says more of than "octets", and their contents octets. Nothing here tests octets.
use Rattle.std.specs.Prelude.{◌≡◌, List, [], ◌∷◌, map, Bool, true, false, ◌||◌, ℕ, zero, suc, ◌+◌, ◌*◌, ◌-◌, ◌^◌, ◌<◌, eqb, ℤ, pos, negsuc}
use Rattle.trees.specs.Numbers.{signed_octets}
use Rattle.octets.specs.Octets.{Octets}
use Rattle.der.specs.Tags.{boolean_tag, integer_tag, bit_string_tag, null_tag, object_identifier_tag, enumerated_tag}
use Rattle.der.specs.Contents.{holds_elements}
use Rattle.der.specs.Oids.{oid}

-- ---- BOOLEAN: one octet (8.2.1), all bits 1 if it is true (11.1), 0 if not (8.2.2)

abbrev pub boolean_octets : Bool → List ℕ
boolean_octets true = 255 ∷ []
boolean_octets false = 0 ∷ []

-- ---- INTEGER: a two's complement binary number (8.3.3) in the fewest octets (8.3.2), so that bit 8 of the first is the sign. The number
-- −(n + 1), negsuc n, is n with every bit the other way round. ENUMERATED: the same (8.4).

abbrev pub inverted : ℕ → ℕ
inverted b = 255 - b

unfoldable pub integer_octets : ℤ → List ℕ
integer_octets (pos n) = signed_octets n
integer_octets (negsuc n) = map inverted (signed_octets n)

-- ---- BIT STRING: "bits 8 to 1 of the first subsequent octet, followed by bits 8 to 1 of the second subsequent octet" (8.6.2.1), and so on

abbrev pub bit : Bool → ℕ
bit true = 1
bit false = 0

-- the octets from one on that has `free` bits left, and says n by those before; the bits left at the end are 0 (11.2.1)
unfoldable pub packed : ℕ → ℕ → List Bool → List ℕ
packed free n [] = (n * 2 ^ free) ∷ []
packed zero n (b ∷ bs) = n ∷ packed 7 (bit b) bs
packed (suc free) n (b ∷ bs) = packed free (2 * n + bit b) bs

-- how many bits are left at the end
unfoldable pub unused : ℕ → List Bool → ℕ
unused free [] = free
unused zero (b ∷ bs) = unused 7 bs
unused (suc free) (b ∷ bs) = unused free bs

-- the initial octet is the number of unused bits (8.6.2.2); of no bits it is 0, and nothing follows (8.6.2.3)
unfoldable pub bit_string_octets : List Bool → List ℕ
bit_string_octets [] = 0 ∷ []
bit_string_octets (b ∷ bs) = unused 7 bs ∷ packed 7 (bit b) bs

-- ---- OBJECT IDENTIFIER: at least two arcs; the first is 0, 1 or 2, and the second below 40 after 0 and 1 (8.19.4)

unfoldable pub Arcs : List ℕ → Type 0
Arcs [] = ⊥
Arcs (x ∷ []) = ⊥
Arcs (x ∷ y ∷ arcs) = (x < 3) × (x < 2 → y < 40)

-- ---- a value, with the number of its type, which is the tag of a primitive element; of the other types every string of octets is contents

pub data Value : Type 0 where
  boolean : Bool → Value  -- 8.2
  integer enumerated : ℤ → Value  -- 8.3, 8.4
  bit_string : List Bool → Value  -- 8.6
  null : Value  -- 8.8
  identifier : List ℕ → Value  -- 8.19
  other : ℕ → List ℕ → Value

unfoldable pub type_number : Value → ℕ
type_number (boolean v) = boolean_tag
type_number (integer v) = integer_tag
type_number (bit_string v) = bit_string_tag
type_number null = null_tag
type_number (identifier v) = object_identifier_tag
type_number (enumerated v) = enumerated_tag
type_number (other number v) = number

unfoldable pub contents : Value → List ℕ
contents (boolean v) = boolean_octets v
contents (integer v) = integer_octets v
contents (bit_string v) = bit_string_octets v
contents null = []
contents (identifier v) = oid v
contents (enumerated v) = integer_octets v
contents (other number v) = v

-- those types: no rule above is theirs, and they hold no elements
abbrev pub ruled : ℕ → Bool
ruled n =
    eqb n boolean_tag
    || (eqb n integer_tag || (eqb n bit_string_tag || (eqb n null_tag || (eqb n object_identifier_tag || eqb n enumerated_tag))))

abbrev pub Other : ℕ → Type 0
Other n = (ruled n ≡ false) × (holds_elements n ≡ false)

-- what is asked of a value: of the types without a rule, that it is octets
unfoldable pub Right : Value → Type 0
Right (boolean v) = Unit {0}
Right (integer v) = Unit {0}
Right (bit_string v) = Unit {0}
Right null = Unit {0}
Right (identifier v) = Arcs v
Right (enumerated v) = Unit {0}
Right (other number v) = Other number × Octets v

-- the contents are those of a value of the type with this number
abbrev pub Says : ℕ → List ℕ → Type 0
Says number octets = (v : Value) × Right v × (type_number v ≡ number) × (contents v ≡ octets)
