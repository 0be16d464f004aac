-- Contents are exactly the encodings of values: `contents_exactly` and `contents_faithful`, as specs/Contents.antt states them.
-- Assumes nothing.
use mathlib.Core.Path.{◌≡◌, sym, ap, ◌∙◌}
use mathlib.Core.List.{[], ◌∷◌}
use Prim.Native.Nat.{ℕ, ◌+◌, ◌*◌}
use Rattle.trees.specs.Values.{Arcs}
use Rattle.trees.specs.Contents.{ContentsExactly, ContentsFaithful}
use Rattle.der.specs.Integers.{integer_of}
use Rattle.trees.proofs.Laws.Integers.{integer_reads, integer_fewest}
use Rattle.trees.proofs.Laws.Bits.{bits_one}
use Rattle.trees.proofs.Laws.Arcs.{arcs_from, arcs_read, apart, apart_one, arcs_of, oid_reads}
use Rattle.trees.proofs.Laws.Values.{boolean_exactly, integer_exactly, bits_exactly, null_exactly, oid_exactly, says_exactly, value_octets, value_one}

pub contents_exactly : ContentsExactly
contents_exactly =
    record {
      type_exactly = says_exactly;
      boolean_exactly = boolean_exactly;
      integer_exactly = integer_exactly;
      bits_exactly = bits_exactly;
      null_exactly = null_exactly;
      oid_exactly = oid_exactly;
    }

first_arcs : (n : ℕ) → (x : ℕ) × (y : ℕ) × Arcs (x ∷ y ∷ []) × (40 * x + y ≡ n)
unfolding Arcs
first_arcs n = let a = apart n in (a.x, a.y, (a.few, a.low), a.joined)

first_one : (x y u v : ℕ) → Arcs (x ∷ y ∷ []) → Arcs (u ∷ v ∷ []) → 40 * x + y ≡ 40 * u + v → (x ≡ u) × (y ≡ v)
unfolding Arcs
first_one x y u v a b = apart_one x y u v a.0 a.1 b.0 b.1

pub contents_faithful : ContentsFaithful
contents_faithful =
    record {
      value_octets = value_octets;
      value_one = value_one;
      says_one = λ number c p q. value_one p.0 q.0 p.1 q.1 (p.2 ∙ sym q.2) (p.3 ∙ sym q.3);
      integer_reads = integer_reads;
      integer_fewest = integer_fewest;
      integer_one = λ v w e. sym (integer_reads v) ∙ (ap integer_of e ∙ integer_reads w);
      bits_one = bits_one;
      oid_one = λ v w a b e. sym (oid_reads v a) ∙ (ap arcs_of e ∙ oid_reads w b);
      subidentifiers_one = λ v w e. sym (arcs_read v) ∙ (ap (arcs_from 0) e ∙ arcs_read w);
      first_arcs = first_arcs;
      first_one = first_one;
    }
