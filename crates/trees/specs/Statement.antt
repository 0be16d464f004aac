-- Octets are sound DER, as the linter judges them, exactly if they are what X.690 writes for a tree of elements; and there is one such tree. It is
-- proved in proofs/Laws/Theorem.antt of every list of octets, however long: `exactly`, `faithful` and `outlined`.
use Rattle.std.specs.Prelude.{◌≡◌, ◌↔◌, List, [], ◌++◌, ℕ, ◌-◌, ◌≤◌, length, Ok}
use Rattle.trees.specs.Trees.{Tree, encode, Good, height, SetsOrdered}
use Rattle.trees.specs.Reading.{parse}
use Rattle.trees.specs.Outline.{outline_of, outline, Rises}
use Rattle.octets.specs.Octets.{Octets, octets_from}
use Rattle.der.specs.Soundness.{stretch_soundness, der_soundness, soundness_number, Soundness}

-- the octets are those of a tree that is good by X.690, and that has at most the 16 levels that document 01 allows
abbrev pub Encodes : Tree → List ℕ → Type 0
Encodes t s = Good t × (height t ≤ 16) × (encode t ≡ s)

-- refusal 4, "not sound DER", is not given
abbrev pub Faultless : Soundness → Type 0
Faultless found = soundness_number found ≡ 4 → ⊥

pub record Exactly : Type 0 where
  -- neither refusal 4 nor 5 is given exactly if the octets are those of such a tree, and its SETs are in order
  pub sound_exactly : (s : List ℕ) → Octets s → (der_soundness s ≡ Ok tt) ↔ ((t : Tree) × Encodes t s × SetsOrdered t)
  -- refusal 5 is given exactly if the octets are those of such a tree, and its SETs are not in order
  pub unordered_exactly : (s : List ℕ) → Octets s → (soundness_number (der_soundness s) ≡ 5) ↔ ((t : Tree) × Encodes t s × (SetsOrdered t → ⊥))
  -- refusal 4 is not given exactly if they are those of such a tree, whatever the order of its SETs
  pub faultless_exactly : (s : List ℕ) → Octets s → Faultless (der_soundness s) ↔ ((t : Tree) × Encodes t s)
  -- the same of a stretch of octets, such as an extension's value
  pub stretch_sound : (s : List ℕ) (at end : ℕ) → Octets s → end ≤ length s
      → (stretch_soundness s at end ≡ Ok tt) ↔ ((t : Tree) × Encodes t (octets_from s at (end - at)) × SetsOrdered t)
  pub stretch_faultless : (s : List ℕ) (at end : ℕ) → Octets s → end ≤ length s
      → Faultless (stretch_soundness s at end) ↔ ((t : Tree) × Encodes t (octets_from s at (end - at)))

pub record Faithful : Type 0 where
  -- an encoding is octets and reads back as its tree, however many levels it has
  pub encode_octets : (t : Tree) → Good t → Octets (encode t)
  pub parse_encode : (t : Tree) → Good t → parse (encode t) ≡ t
  -- where refusal 4 is not given, the tree that is read is the one that there is
  pub encodes_parse : (s : List ℕ) → Octets s → Faultless (der_soundness s) → Encodes (parse s) s
  pub ordered_parse : (s : List ℕ) → Octets s → der_soundness s ≡ Ok tt → SetsOrdered (parse s)
  -- no two trees have one encoding, and no encoding begins another
  pub one_tree : (t u : Tree) → Good t → Good u → encode t ≡ encode u → t ≡ u
  pub no_beginning : (t u : Tree) (x : List ℕ) → Good t → Good u → encode t ++ x ≡ encode u → x ≡ []

pub record Outlined : Type 0 where
  -- the elements that the walk meets are those of the tree
  pub outline_tree : (s : List ℕ) (t : Tree) → Encodes t s → outline_of s ≡ outline t 1 0
  -- each once, by rising start, and within the octets
  pub outline_rises : (s : List ℕ) (t : Tree) → Encodes t s → Rises 0 (length s) (outline_of s)
