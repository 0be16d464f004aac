-- Contents octets pass the linter's test of their type exactly if they are what X.690 writes for a value of it; and there is one such value. It is
-- proved in proofs/Laws/Contents.antt of every list of octets: `contents_exactly` and `contents_faithful`.
use Rattle.std.specs.Prelude.{◌≡◌, ◌↔◌, List, [], ◌∷◌, Bool, true, ℕ, ◌+◌, ◌*◌, ◌≤◌, length, ℤ}
use Rattle.trees.specs.Values.{boolean_octets, integer_octets, bit_string_octets, Arcs, Value, type_number, contents, Right, Says}
use Rattle.octets.specs.Octets.{Octets}
use Rattle.der.specs.Contents.{boolean_ok, integer_ok, bits_ok, null_ok, oid_ok, primitive_ok}
use Rattle.der.specs.Integers.{integer_of}
use Rattle.der.specs.Oids.{subidentifiers, oid}

pub record ContentsExactly : Type 0 where
  -- the test of the type with this number, whatever it is
  pub type_exactly : (number : ℕ) (c : List ℕ) → Octets c → (primitive_ok number c ≡ true) ↔ Says number c
  -- BOOLEAN, INTEGER and ENUMERATED, BIT STRING, NULL, OBJECT IDENTIFIER
  pub boolean_exactly : (c : List ℕ) → (boolean_ok c ≡ true) ↔ ((v : Bool) × (boolean_octets v ≡ c))
  pub integer_exactly : (c : List ℕ) → Octets c → (integer_ok c ≡ true) ↔ ((v : ℤ) × (integer_octets v ≡ c))
  pub bits_exactly : (c : List ℕ) → Octets c → (bits_ok c ≡ true) ↔ ((v : List Bool) × (bit_string_octets v ≡ c))
  pub null_exactly : (c : List ℕ) → (null_ok c ≡ true) ↔ ([] ≡ c)
  pub oid_exactly : (c : List ℕ) → Octets c → (oid_ok c ≡ true) ↔ ((arcs : List ℕ) × Arcs arcs × (oid arcs ≡ c))

pub record ContentsFaithful : Type 0 where
  -- an encoding is octets, and no two values of a type have one encoding
  pub value_octets : (v : Value) → Right v → Octets (contents v)
  pub value_one : (v w : Value) → Right v → Right w → type_number v ≡ type_number w → contents v ≡ contents w → v ≡ w
  pub says_one : (number : ℕ) (c : List ℕ) (p q : Says number c) → p.0 ≡ q.0
  -- an INTEGER says its number (8.3.3), and no fewer octets do (8.3.2)
  pub integer_reads : (v : ℤ) → integer_of (integer_octets v) ≡ v
  pub integer_fewest : (c : List ℕ) → Octets c → 1 ≤ length c → length (integer_octets (integer_of c)) ≤ length c
  pub integer_one : (v w : ℤ) → integer_octets v ≡ integer_octets w → v ≡ w
  pub bits_one : (v w : List Bool) → bit_string_octets v ≡ bit_string_octets w → v ≡ w
  pub oid_one : (v w : List ℕ) → Arcs v → Arcs w → oid v ≡ oid w → v ≡ w
  -- so too of the subidentifiers alone, whatever they are
  pub subidentifiers_one : (v w : List ℕ) → subidentifiers v ≡ subidentifiers w → v ≡ w
  -- a first subidentifier n comes apart into two arcs, in one way
  pub first_arcs : (n : ℕ) → (x : ℕ) × (y : ℕ) × Arcs (x ∷ y ∷ []) × (40 * x + y ≡ n)
  pub first_one : (x y u v : ℕ) → Arcs (x ∷ y ∷ []) → Arcs (u ∷ v ∷ []) → 40 * x + y ≡ 40 * u + v → (x ≡ u) × (y ≡ v)
