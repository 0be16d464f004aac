-- The parameters of a key's algorithm.
use Rattle.std.specs.Prelude.{List, [], ◌∷◌, Bool, ◌||◌, ℕ}
use Rattle.der.specs.Comparing.{octets_are}
use Rattle.der.specs.Oids.{oid_element, null_element}
use Rattle.der.specs.declared.header.Head.{Head}

abbrev pub is_null : List ℕ → Head → Bool
is_null s h = octets_are s h null_element

-- The curves that document 000 lists ("Server Authentication Certificate Profile", the full table, row "Subject Public Key Information"), as
-- OBJECT IDENTIFIERs: "Curve P-256 {1.2.840.10045.3.1.7}"
abbrev pub p256 : List ℕ
p256 = oid_element (1 ∷ 2 ∷ 840 ∷ 10045 ∷ 3 ∷ 1 ∷ 7 ∷ [])

-- "Curve P-384 {1.3.132.0.34}"
abbrev pub p384 : List ℕ
p384 = oid_element (1 ∷ 3 ∷ 132 ∷ 0 ∷ 34 ∷ [])

-- "Curve P-521 {1.3.132.0.35}"
abbrev pub p521 : List ℕ
p521 = oid_element (1 ∷ 3 ∷ 132 ∷ 0 ∷ 35 ∷ [])

abbrev pub is_curve : List ℕ → Head → Bool
is_curve s h = octets_are s h p256 || (octets_are s h p384 || octets_are s h p521)
