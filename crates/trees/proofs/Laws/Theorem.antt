-- Sound DER is exactly X.690's encoding of trees: `exactly`, `faithful` and `outlined`, as specs/Statement.antt states them.
-- Assumes nothing.
use mathlib.Core.Path.{◌≡◌, refl, sym, ap, subst, ◌∙◌}
use mathlib.Core.Logic.{◌↔◌}
use mathlib.Core.List.{List, [], append-nil}
use Prim.Native.Nat.{ℕ, ◌-◌, ◌≤◌}
use native.Mathlib.Nat.{le_refl}
use native.Mathlib.Omega.{arith}
use lib.ListN.{length}
use Rattle.trees.specs.Trees.{Tree, encode, Good, SetsOrdered}
use Rattle.trees.specs.Reading.{tree_of, parse}
use Rattle.trees.specs.Outline.{outline_of, outline, Rises}
use Rattle.trees.specs.Statement.{Encodes, Faultless, Exactly, Faithful, Outlined}
use Rattle.octets.specs.Octets.{Octets, octets_from}
use Rattle.octets.proofs.Laws.Octets.{octets_long}
use Rattle.der.specs.Header.{head_of}
use Rattle.der.specs.Elements.{elements_of}
use Rattle.der.specs.Soundness.{faulty, unordered, stretch_soundness, der_soundness, soundness_number, Soundness}
use Rattle.trees.proofs.Laws.Element.{whole}
use Rattle.trees.proofs.Laws.Walks.{None, form_none, sound_none, stretch_whole}
use Rattle.trees.proofs.Laws.Encoding.{encode_some, encode_longer, encode_octets, encode_alone}
use Rattle.trees.proofs.Laws.Reading.{Here, reads_one}
use Rattle.trees.proofs.Laws.Writing.{Wrote, writes_one}
use Rattle.trees.proofs.Laws.Outline.{rises_tree}
use Rattle.der.specs.declared.walk.Fault.TheVariants.{Unsound, Unordered}
use Rattle.std.specs.Prelude.{Ok, Err}

-- ---- a stretch

module _ (s : List ℕ) (at end : ℕ) where
  stretch_form : Faultless (stretch_soundness s at end) ↔ (((head_of s at end).end ≡ end) × None (faulty s) (elements_of s 16 (head_of s at end)))
  stretch_form =
      let a = stretch_whole Faultless s at end (λ f. f refl) in
      let b = form_none s (elements_of s 16 (head_of s at end)) in
      ((λ f. let g = a.0 f in (g.0, b.0 g.1)), λ f. a.1 (f.0, b.1 f.1))

  stretch_both : (stretch_soundness s at end ≡ Ok tt)
      ↔ (((head_of s at end).end ≡ end)
      × None (faulty s) (elements_of s 16 (head_of s at end)) × None (unordered s) (elements_of s 16 (head_of s at end)))
  stretch_both =
      let a = stretch_whole (λ v. v ≡ Ok tt) s at end (λ f. let n : ◌≡◌ {A = ℕ} 0 1 = cc in omega arith) in
      let b = sound_none s (elements_of s 16 (head_of s at end)) in
      ((λ f. let g = a.0 f in let k = b.0 g.1 in (g.0, k.0, k.1)), λ f. a.1 (f.0, b.1 (f.1, f.2)))

  module _ (w : end ≤ length s) (t : Tree) (e : Encodes t (octets_from s at (end - at))) where
    read_stretch : Here s 16 at t (head_of s at end)
    read_stretch = reads_one 16 s at end t [] w e.0 e.1 (sym e.2 ∙ sym (append-nil (encode t)))

    read_end : (head_of s at end).end ≡ end
    read_end =
        let p = read_stretch.past in
        let z = encode_some t in
        let n : length (encode t) ≡ end - at = ap length e.2 ∙ octets_long s at (end - at) in
        omega arith

  module _ (o : Octets s) (w : end ≤ length s) where
    written : Faultless (stretch_soundness s at end) → Encodes (tree_of s 16 (head_of s at end)) (octets_from s at (end - at))
    written f =
        let g = stretch_form.0 f in
        let k = subst (λ (n : ℕ). Wrote s 16 at n (tree_of s 16 (head_of s at end))) g.0 (writes_one 16 s o at end g.1) in
        (k.good, k.high, k.octets)

    faultless_of : Faultless (stretch_soundness s at end) ↔ ((t : Tree) × Encodes t (octets_from s at (end - at)))
    faultless_of = ((λ f. (tree_of s 16 (head_of s at end), written f)), λ p. stretch_form.1 (read_end w p.0 p.1, (read_stretch w p.0 p.1).sound))

    sound_of : (stretch_soundness s at end ≡ Ok tt) ↔ ((t : Tree) × Encodes t (octets_from s at (end - at)) × SetsOrdered t)
    sound_of = (
      (λ f.
          let g = stretch_both.0 f in
          let e = written (stretch_form.1 (g.0, g.1)) in
          (tree_of s 16 (head_of s at end), e, (read_stretch w (tree_of s 16 (head_of s at end)) e).order.0 g.2)),
      λ p.
          let r = read_stretch w p.0 p.1 in
          stretch_both.1 (read_end w p.0 p.1, r.sound, r.order.1 p.2),
    )

-- ---- all the octets

sound_all : (s : List ℕ) → Octets s → (der_soundness s ≡ Ok tt) ↔ ((t : Tree) × Encodes t s × SetsOrdered t)
sound_all s o =
    let p = sound_of s 0 (length s) o (le_refl (length s)) in (
      (λ f. let q = p.0 f in (q.0, subst (Encodes q.0) (whole s) q.1, q.2)),
      λ q. p.1 (q.0, subst (Encodes q.0) (sym (whole s)) q.1, q.2),
    )

faultless_all : (s : List ℕ) → Octets s → Faultless (der_soundness s) ↔ ((t : Tree) × Encodes t s)
faultless_all s o =
    let p = faultless_of s 0 (length s) o (le_refl (length s)) in (
      (λ f. let q = p.0 f in (q.0, subst (Encodes q.0) (whole s) q.1)),
      λ q. p.1 (q.0, subst (Encodes q.0) (sym (whole s)) q.1),
    )

-- ---- the tree that is read

parse_of : (t : Tree) → Good t → parse (encode t) ≡ t
unfolding parse
parse_of t g =
    let s = encode t in
    (reads_one (length s) s 0 (length s) t [] (le_refl (length s)) g (encode_longer t) (whole s ∙ sym (append-nil s))).same

read_as : (s : List ℕ) (t : Tree) → Encodes t s → parse s ≡ t
read_as s t e = ap parse (sym e.2) ∙ parse_of t e.0

unordered_all : (s : List ℕ) → Octets s → (soundness_number (der_soundness s) ≡ 5) ↔ ((t : Tree) × Encodes t s × (SetsOrdered t → ⊥))
unordered_all s o = (
  (λ e.
      let p = (faultless_all s o).0 (λ f. omega arith) in
      (p.0, p.1, λ r. let n = ap soundness_number ((sound_all s o).1 (p.0, p.1, r)) in omega arith)),
  λ p. go p (der_soundness s) refl,
)
  where
    go : ((t : Tree) × Encodes t s × (SetsOrdered t → ⊥)) → (v : Soundness) → der_soundness s ≡ v → soundness_number (der_soundness s) ≡ 5
    go p (Ok _) e =
        let q = (sound_all s o).0 e in
        absurd (p.2 (subst SetsOrdered (sym (read_as s q.0 q.1) ∙ read_as s p.0 p.1) q.2))
    go p (Err (Unsound k)) e = absurd ((faultless_all s o).1 (p.0, p.1) (ap soundness_number e))
    go p (Err (Unordered k)) e = ap soundness_number e

-- ---- the statements

pub exactly : Exactly
exactly =
    record {
      sound_exactly = sound_all;
      unordered_exactly = unordered_all;
      faultless_exactly = faultless_all;
      stretch_sound = sound_of;
      stretch_faultless = faultless_of;
    }

pub faithful : Faithful
faithful =
    record {
      encode_octets = encode_octets;
      parse_encode = parse_of;
      encodes_parse = λ s o f. let p = (faultless_all s o).0 f in subst (λ (t : Tree). Encodes t s) (sym (read_as s p.0 p.1)) p.1;
      ordered_parse = λ s o f. let p = (sound_all s o).0 f in subst SetsOrdered (sym (read_as s p.0 p.1)) p.2;
      one_tree = λ t u g h e. sym (parse_of t g) ∙ (ap parse e ∙ parse_of u h);
      no_beginning = encode_alone;
    }

-- ---- the outline

outline_of_lem : (s : List ℕ) (t : Tree) → Encodes t s → outline_of s ≡ outline t 1 0
unfolding outline_of
outline_of_lem s t e = (read_stretch s 0 (length s) (le_refl (length s)) t (subst (Encodes t) (sym (whole s)) e)).lines 1 (omega arith)

rises_of : (s : List ℕ) (t : Tree) → Encodes t s → Rises 0 (length s) (outline_of s)
unfolding Rises
rises_of s t e =
    let n : length (encode t) ≡ length s = ap length e.2 in
    subst (Rises 0 (length s)) (append-nil (outline t 1 0) ∙ sym (outline_of_lem s t e))
    (rises_tree t 1 0 0 (length s) [] (omega arith) (omega arith) (λ f h. tt))

pub outlined : Outlined
outlined = record { outline_tree = outline_of_lem; outline_rises = rises_of }
