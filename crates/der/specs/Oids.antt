-- An OBJECT IDENTIFIER (X.690, 8.19) from its arcs: the contents octets, and the whole element.
use Rattle.std.specs.Prelude.{List, [], ◌∷◌, ◌++◌, true, false, ℕ, zero, suc, ◌+◌, ◌*◌, ◌%◌, ◌/◌, eqb, length}
use Rattle.der.specs.Tags.{object_identifier_tag, null_tag}

-- the octets of a subidentifier before its last: seven bits each, bit 8 set, the fewest that say n, and then the octets `after` (8.19.2)
unfoldable pub sevens : ℕ → ℕ → List ℕ → List ℕ
sevens zero n after = after
sevens (suc fuel) n after = elim (eqb n 0) [ true ↦ after | false ↦ sevens fuel (n / 128) ((128 + n % 128) ∷ after) ]

-- bit 8 of its last octet is 0
unfoldable pub subidentifier : ℕ → List ℕ
subidentifier n = sevens n (n / 128) (n % 128 ∷ [])

-- subidentifiers one behind the other
unfoldable pub subidentifiers : List ℕ → List ℕ
subidentifiers [] = []
subidentifiers (n ∷ ns) = subidentifier n ++ subidentifiers ns

-- The first two arcs, X and Y, are one subidentifier, 40 X + Y (8.19.4); each other arc is one. (There is no identifier of fewer than two arcs.)
unfoldable pub oid : List ℕ → List ℕ
oid [] = []
oid (x ∷ []) = []
oid (x ∷ y ∷ arcs) = subidentifiers ((40 * x + y) ∷ arcs)

-- The whole element: tag, length, and contents. One octet says the length if it is below 128 (8.1.3.4), as of every identifier that a
-- definition writes.
abbrev pub oid_element : List ℕ → List ℕ
oid_element arcs = object_identifier_tag ∷ length (oid arcs) ∷ oid arcs

-- NULL (8.8), which stands behind an identifier that takes no parameters: no contents
abbrev pub null_element : List ℕ
null_element = null_tag ∷ 0 ∷ []
