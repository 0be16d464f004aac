-- Elements as X.690 has them: trees, their encoding, and what is asked of them. Nothing here reads octets by their place.
use Rattle.std.specs.Prelude.{◌≡◌, List, [], ◌∷◌, ◌++◌, true, cond, ℕ, zero, suc, ◌+◌, ◌*◌, ◌-◌, ◌<◌, max, length, ltb}
use Rattle.trees.specs.Numbers.{number_octets}
use Rattle.trees.specs.Values.{Says}
use Rattle.octets.specs.Octets.{Octets}
use Rattle.der.specs.Tags.{set_number}
use Rattle.der.specs.Contents.{holds_elements}
use Rattle.der.specs.Order.{octets_le}

-- ---- trees

-- the classes of tags (8.1.2.2, Table 1)
pub data Class : Type 0 where
  universal application context_specific private : Class

pub record Tag : Type 0 where
  pub class : Class
  pub number : ℕ

infixr 50 ◌then◌
-- an element: primitive, with its contents octets; or constructed, of the elements that it holds
mutual
  pub data Tree : Type 0 where
    primitive : Tag → List ℕ → Tree
    constructed : Tag → Trees → Tree

  pub data Trees : Type 0 where
    nothing : Trees
    ◌then◌ : Tree → Trees → Trees

-- ---- their encoding

abbrev pub class_bits : Class → ℕ
class_bits universal = 0
class_bits application = 1
class_bits context_specific = 2
class_bits private = 3

-- The identifier octet: the class in bits 8 and 7, in bit 6 whether the element is primitive, 0, or constructed, 1, and the tag's number
-- in bits 5 to 1 (8.1.2.2 to 8.1.2.5).
abbrev pub identifier_octet : ℕ → Tag → ℕ
identifier_octet form tag = 64 * class_bits tag.class + (32 * form + tag.number)

-- The length octets: below 128 one (8.1.3.4), else the number of those that follow, with bit 8 set, and those, which say the length
-- (8.1.3.5). The definite form, in the fewest octets (10.1).
unfoldable pub length_octets : ℕ → List ℕ
length_octets n = cond (ltb n 128) (n ∷ []) ((128 + length (number_octets n)) ∷ number_octets n)

-- identifier octet, length octets, contents octets (8.1.1.1)
unfoldable pub element : ℕ → List ℕ → List ℕ
element identifier contents = identifier ∷ length_octets (length contents) ++ contents

-- the contents octets of a constructed element are the encodings of those that it holds, one behind the other (8.9.2 to 8.12.2)
unfoldable mutual
  pub encode : Tree → List ℕ
  encode (primitive tag contents) = element (identifier_octet 0 tag) contents
  encode (constructed tag ts) = element (identifier_octet 1 tag) (encode_all ts)

  pub encode_all : Trees → List ℕ
  encode_all nothing = []
  encode_all (t then ts) = encode t ++ encode_all ts

-- ---- what is asked of them

-- universal 0 is for end-of-contents octets, which belong to the indefinite form (8.1.5)
abbrev pub reserved : Tag
reserved = record { class = universal; number = 0 }

-- a number that one identifier octet has room for (8.1.2.2): from 31 on there are more octets (8.1.2.4), which document 01 does not take
abbrev pub TagOk : Tag → Type 0
TagOk tag = (tag.number < 31) × (tag ≡ reserved → ⊥)

-- the first length octet is not FF (8.1.3.5 c): no contents of less than 256 ^ 126 octets need it
abbrev pub LengthOk : List ℕ → Type 0
LengthOk contents = length (number_octets (length contents)) < 127

-- The contents of a universal type are those of a value of it (specs/Values.antt), and its form is right: those that hold elements are
-- constructed, all others primitive, since no string is in pieces (10.2).
unfoldable mutual
  pub Good : Tree → Type 0
  Good (primitive tag contents) = TagOk tag × LengthOk contents × (tag.class ≡ universal → Says tag.number contents) × Octets contents
  Good (constructed tag ts) = TagOk tag × LengthOk (encode_all ts) × (tag.class ≡ universal → holds_elements tag.number ≡ true) × AllGood ts

  pub AllGood : Trees → Type 0
  AllGood nothing = Unit {0}
  AllGood (t then ts) = Good t × AllGood ts

-- how many levels there are
unfoldable mutual
  pub height : Tree → ℕ
  height (primitive tag contents) = 1
  height (constructed tag ts) = suc (height_all ts)

  pub height_all : Trees → ℕ
  height_all nothing = 0
  height_all (t then ts) = max (height t) (height_all ts)

-- ---- the order of a SET OF's members: "ascending order, the encodings being compared as octet strings with the shorter components being padded
-- at their trailing end with 0-octets" (11.6)

unfoldable pub zeros : ℕ → List ℕ
zeros zero = []
zeros (suc n) = 0 ∷ zeros n

unfoldable pub padded : ℕ → List ℕ → List ℕ
padded n x = x ++ zeros (n - length x)

abbrev pub NotAfter : List ℕ → List ℕ → Type 0
NotAfter x y = octets_le (padded (length y) x) (padded (length x) y) ≡ true

unfoldable pub Ascending : List (List ℕ) → Type 0
Ascending [] = Unit {0}
Ascending (x ∷ []) = Unit {0}
Ascending (x ∷ y ∷ ys) = NotAfter x y × Ascending (y ∷ ys)

unfoldable pub encodings : Trees → List (List ℕ)
encodings nothing = []
encodings (t then ts) = encode t ∷ encodings ts

abbrev pub universal_set : Tag
universal_set = record { class = universal; number = set_number }

unfoldable mutual
  pub SetsOrdered : Tree → Type 0
  SetsOrdered (primitive tag contents) = Unit {0}
  SetsOrdered (constructed tag ts) = (tag ≡ universal_set → Ascending (encodings ts)) × AllSetsOrdered ts

  pub AllSetsOrdered : Trees → Type 0
  AllSetsOrdered nothing = Unit {0}
  AllSetsOrdered (t then ts) = SetsOrdered t × AllSetsOrdered ts
