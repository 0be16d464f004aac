-- The header of an element (X.690, 8.1.2, 8.1.3 and 10.1), and the elements that stand one behind the other in a stretch of octets.
use Rattle.std.specs.Prelude.{List, [], ◌∷◌, Bool, true, false, cond, not, ◌&&◌, ◌||◌, ℕ, zero, suc, ◌+◌, ◌-◌, length, ltb, leb, eqb}
use Rattle.der.specs.declared.header.Head.{Head}
use Rattle.der.specs.Tags.{tag_number, constructed_bit}
use Rattle.octets.specs.Octets.{octet_at, octets_from}
use Rattle.octets.specs.Numbers.{number_of}

-- a tag number below 31, and not universal 0, primitive or constructed
abbrev pub tag_ok : ℕ → Bool
tag_ok t = not (eqb (tag_number t) 31) && (not (eqb t 0) && not (eqb t constructed_bit))

-- The first length octet is the length, if it is below 128 (8.1.3.4). Else it says how many octets follow that give the length, the high
-- octet first: as many as it is above 128 (8.1.3.5).
abbrev pub length_by : List ℕ → ℕ → ℕ → ℕ
length_by s at first = cond (ltb first 128) first (number_of (octets_from s (at + 2) (first - 128)))

abbrev pub length_of : List ℕ → ℕ → ℕ
length_of s at = length_by s at (octet_at s (at + 1))

-- 128 alone is the indefinite form (8.1.3.6), 255 is kept back (8.1.3.5 c), and a length takes the fewest octets (10.1): the long form is
-- for 128 and more, and its first octet is not 0.
abbrev pub long_ok : ℕ → ℕ → ℕ → Bool
long_ok first high len = (not (eqb first 128) && not (eqb first 255)) && (not (eqb high 0) && leb 128 len)

abbrev pub length_ok : List ℕ → ℕ → Bool
length_ok s at = ltb (octet_at s (at + 1)) 128 || long_ok (octet_at s (at + 1)) (octet_at s (at + 2)) (length_of s at)

-- the octets of identifier and length together
abbrev pub header_size : List ℕ → ℕ → ℕ
header_size s at = 2 + (octet_at s (at + 1) - 128)

-- an element at place at with a header of skip octets and contents of len
abbrev pub whole_head : ℕ → ℕ → ℕ → ℕ → Head
whole_head at tag skip len = record { at = at; tag = tag; body = at + skip; end = at + (skip + len); sound = true }

-- one whose header is not sound has no contents, and takes all that is left of its container
abbrev pub broken_head : ℕ → ℕ → Head
broken_head at end = record { at = at; tag = 0; body = end; end = end; sound = false }

-- a header is sound if its length and tag are, and if it and the contents stay before the container's end
abbrev pub head_if : Bool → ℕ → ℕ → ℕ → ℕ → ℕ → Head
head_if good at end tag skip len =
    cond (good && (tag_ok tag && leb (at + (skip + len)) end)) (whole_head at tag skip len) (broken_head at end)

-- the element at place at in a container that ends at end, which is no further than the octets go
unfoldable pub head_of : List ℕ → ℕ → ℕ → Head
head_of s at end = head_if (leb end (length s) && length_ok s at) at end (octet_at s at) (header_size s at) (length_of s at)

-- the elements from place at to end, at most fuel of them
unfoldable pub children_by : List ℕ → ℕ → ℕ → ℕ → List Head
children_by s zero at end = []
children_by s (suc fuel) at end =
    elim (ltb at end) [ true ↦ head_of s at end ∷ children_by s fuel (head_of s at end).end end | false ↦ [] ]

-- the elements from place at to end: each takes an octet at least
unfoldable pub children_of : List ℕ → ℕ → ℕ → List Head
children_of s at end = children_by s (end - at) at end
