-- The order of a SET's members (X.690, 11.6): "members ascend as octet strings, equals allowed".
use Rattle.std.specs.Prelude.{List, [], ◌∷◌, Bool, true, false, cond, ◌&&◌, ℕ, ◌-◌, ltb}
use Rattle.der.specs.declared.header.Head.{Head}
use Rattle.octets.specs.Octets.{octets_from}

-- the order of a dictionary. (Of two different elements neither is the beginning of the other, so 11.6's padding changes nothing.)
unfoldable pub octets_le : List ℕ → List ℕ → Bool
octets_le [] ys = true
octets_le (x ∷ xs) [] = false
octets_le (x ∷ xs) (y ∷ ys) = cond (ltb x y) true (cond (ltb y x) false (octets_le xs ys))

-- each at least the one before it, and the first at least x
unfoldable pub ascend_from : List ℕ → List (List ℕ) → Bool
ascend_from x [] = true
ascend_from x (y ∷ ys) = octets_le x y && ascend_from y ys

-- none is below the empty string
abbrev pub ascending : List (List ℕ) → Bool
ascending ys = ascend_from [] ys

-- an element's octets, header and contents
abbrev pub octets_of : List ℕ → Head → List ℕ
octets_of s h = octets_from s h.at (h.end - h.at)
