-- The tests that definitions make on the octets of OBJECT IDENTIFIERs are tests on their arcs. Proved in proofs/Laws/Theorem.antt: `on_arcs`.
use Rattle.std.specs.Prelude.{◌≡◌, ◌↔◌, List, [], ◌∷◌, ◌++◌, true, ℕ, ◌≤◌, ◌<◌, length}
use Rattle.der.specs.Arcs.{arc_below}
use Rattle.der.specs.Oids.{oid, oid_element}
use Rattle.trees.specs.Values.{Arcs}
use Rattle.trees.specs.Trees.{universal, primitive, encode}
use Rattle.policies.specs.Policies.{is_below}

-- the arcs of one identifier, and at least one arc more
abbrev pub Below : List ℕ → List ℕ → Type 0
Below a b = (n : ℕ) × (more : List ℕ) × (b ≡ a ++ n ∷ more)

pub record OnArcs : Type 0 where
  -- 409's "below", which goes by octets
  pub below_arcs : (a b : List ℕ) → Arcs a → Arcs b → (is_below (oid a) (oid b) ≡ true) ↔ Below a b
  -- n of an identifier one arc below another; it is 1 to 127, and 0 stands for any other
  pub arc_below_lem : (a b : List ℕ) (n : ℕ) → Arcs a → Arcs b → 1 ≤ n → (arc_below (oid a) (oid b) ≡ n) ↔ ((n < 128) × (b ≡ a ++ n ∷ []))
  -- the whole element is X.690's encoding of one
  pub element_encodes : (arcs : List ℕ) → length (oid arcs) < 128
      → oid_element arcs ≡ encode (primitive (record { class = universal; number = 6 }) (oid arcs))
