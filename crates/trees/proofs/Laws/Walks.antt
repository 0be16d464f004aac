-- Walks that find nothing (`None`).
--     none_first, none_join                     the first element of a walk, and two walks one behind the other
--     form_none, sound_none                     what a walk that finds nothing gives: no refusal 4; no refusal at all
--     stretch_whole                             the verdict on the outermost element is that on its walk
--     tree_plain, tree_list                     an element's tree by its form
--     elements_plain, elements_list             its walk by its form
--     ok_fault, fault_ok, deep_none             an element is not faulty exactly if it is sound by itself; below the last level each is
--     ordered_plain, ordered_list               when it is no SET out of order
-- Assumes nothing.
use mathlib.Core.Path.{◌≡◌, refl, sym}
use mathlib.Core.Logic.{◌↔◌}
use mathlib.Core.List.{List, [], ◌∷◌, ◌++◌, map}
use mathlib.Core.Bool.{Bool, true, false, cond, not, ◌&&◌}
use Prim.Native.Nat.{ℕ, suc}
use native.Mathlib.Omega.{arith}
use lib.Dec.{eqb}
use borrow.Author.Tests.{ne_eqb, eqb-true, eqb-false}
use Rattle.trees.specs.Trees.{primitive, constructed}
use Rattle.trees.specs.Reading.{tag_of, trees_of, tree_of}
use Rattle.der.specs.Header.{head_of, children_of}
use Rattle.der.specs.Contents.{constructed as is_constructed, contents_of, element_ok}
use Rattle.der.specs.Order.{ascend_from, ascending, octets_of}
use Rattle.der.specs.Elements.{Node, elements_of}
use Rattle.der.specs.Workings.Walk.{members_of}
use Rattle.der.specs.Soundness.{faulty, unordered, FirstPlace, first, judge, soundness, stretch_soundness, soundness_number, Soundness}
use Rattle.der.specs.Soundness.FirstPlace.{nothing, found}
use Rattle.der.specs.declared.header.Head.{Head}
use Rattle.der.specs.declared.walk.Fault.TheVariants.{Unsound}
use Rattle.std.specs.Prelude.{Ok, Err}

abbrev pub None : (Node → Bool) → List Node → Type 0
None p ns = first p ns ≡ nothing

-- ---- lists of elements

pub none_first : (p : Node → Bool) (n : Node) (ns : List Node) → None p (n ∷ ns) ↔ ((p n ≡ false) × None p ns)
unfolding first
none_first p n ns = go (p n) refl
  where
    go : (b : Bool) → p n ≡ b → (cond b (found n.head.at) (first p ns) ≡ nothing) ↔ ((p n ≡ false) × None p ns)
    go true f = ((λ e. (cc, cc)), λ e. cc)
    go false f = ((λ e. (f, e)), λ e. e.1)

pub none_join : (p : Node → Bool) (xs ys : List Node) → None p (xs ++ ys) ↔ (None p xs × None p ys)
unfolding first
none_join p [] ys = ((λ e. (refl, e)), λ e. e.1)
none_join p (x ∷ xs) ys =
    let f = none_first p x xs in
    let g = none_first p x (xs ++ ys) in
    let h = none_join p xs ys in (
      (λ e. let a = g.0 e in let b = h.0 a.1 in (f.1 (a.0, b.0), b.1)),
      λ e. let a = f.0 e.0 in g.1 (a.0, h.1 (a.1, e.1)),
    )

-- ---- their verdict

pub form_none : (s : List ℕ) (ns : List Node) → (soundness_number (soundness s ns) ≡ 4 → ⊥) ↔ None (faulty s) ns
unfolding soundness
form_none s ns = go (first (faulty s) ns) (first (unordered s) ns)
  where
    go : (a b : FirstPlace) → (soundness_number (judge a b) ≡ 4 → ⊥) ↔ (a ≡ nothing)
    go nothing nothing = ((λ e. refl), λ e f. omega arith)
    go nothing (found q) = ((λ e. refl), λ e f. omega arith)
    go (found p) b = ((λ e. absurd (e refl)), λ e f. let n : ◌≡◌ {A = ℕ} 0 1 = cc in omega arith)

pub sound_none : (s : List ℕ) (ns : List Node) → (soundness s ns ≡ Ok tt) ↔ (None (faulty s) ns × None (unordered s) ns)
unfolding soundness
sound_none s ns = go (first (faulty s) ns) (first (unordered s) ns)
  where
    go : (a b : FirstPlace) → (judge a b ≡ Ok tt) ↔ ((a ≡ nothing) × (b ≡ nothing))
    go nothing nothing = ((λ e. (refl, refl)), λ e. refl)
    go nothing (found q) = ((λ e. (refl, cc)), λ e. cc)
    go (found p) b = ((λ e. (cc, cc)), λ e. cc)

-- the outermost element, for any verdict that a part torn before its end does not get
pub stretch_whole : (Q : Soundness → Type 0) (s : List ℕ) (at end : ℕ) → (Q (Err (Unsound at)) → ⊥)
    → Q (stretch_soundness s at end) ↔ (((head_of s at end).end ≡ end) × Q (soundness s (elements_of s 16 (head_of s at end))))
unfolding stretch_soundness
stretch_whole Q s at end n = go (eqb (head_of s at end).end end) refl
  where
    go : (b : Bool) → eqb (head_of s at end).end end ≡ b
        → Q (cond b (soundness s (elements_of s 16 (head_of s at end))) (Err (Unsound at)))
        ↔ (((head_of s at end).end ≡ end) × Q (soundness s (elements_of s 16 (head_of s at end))))
    go true e = ((λ q. (eqb-true (head_of s at end).end end e, q)), λ q. q.1)
    go false e = ((λ q. absurd (n q)), λ q. absurd (eqb-false (head_of s at end).end end e q.0))

-- ---- an element by its form

module _ (s : List ℕ) (d : ℕ) (h : Head) where
  abbrev pub node_of : Node
  node_of = record { head = h; levels = suc d }

  pub tree_plain : is_constructed h.tag ≡ false → tree_of s (suc d) h ≡ primitive (tag_of h.tag) (contents_of s h)
  unfolding tree_of
  tree_plain e = rw e

  pub tree_list : is_constructed h.tag ≡ true
      → tree_of s (suc d) h ≡ constructed (tag_of h.tag) (trees_of (tree_of s d) (children_of s h.body h.end))
  unfolding tree_of
  tree_list e = rw e

  pub elements_plain : is_constructed h.tag ≡ false → elements_of s (suc d) h ≡ node_of ∷ []
  unfolding elements_of
  elements_plain e = rw e

  pub elements_list : is_constructed h.tag ≡ true → elements_of s (suc d) h ≡ node_of ∷ members_of s d h.body h.end
  unfolding elements_of
  elements_list e = rw e

  pub ok_fault : element_ok s h ≡ true → faulty s node_of ≡ false
  ok_fault e = rw (ne_eqb (suc d) 0 (λ z. omega arith), e)

  pub fault_ok : faulty s node_of ≡ false → element_ok s h ≡ true
  fault_ok e = go (element_ok s h) (rw (ne_eqb (suc d) 0 (λ z. omega arith)) at e)
    where
      go : (b : Bool) → not b ≡ false → b ≡ true
      go true f = refl
      go false f = sym f

  pub ordered_plain : is_constructed h.tag ≡ false → unordered s node_of ≡ false
  unfolding ascend_from
  ordered_plain e = rw e (go (eqb h.tag 49))
    where
      go : (b : Bool) → (b && false) ≡ false
      go true = refl
      go false = refl

  pub ordered_list : is_constructed h.tag ≡ true → (unordered s node_of ≡ false)
      ↔ (h.tag ≡ 49 → ascending (map (octets_of s) (children_of s h.body h.end)) ≡ true)
  ordered_list e = rw e (go (eqb h.tag 49) refl (ascending (map (octets_of s) (children_of s h.body h.end))))
    where
      go : (b : Bool) → eqb h.tag 49 ≡ b → (c : Bool) → ((b && not c) ≡ false) ↔ (h.tag ≡ 49 → c ≡ true)
      go true f true = ((λ g z. refl), λ g. refl)
      go true f false = ((λ g z. sym g), λ g. sym (g (eqb-true h.tag 49 f)))
      go false f c = ((λ g z. absurd (eqb-false h.tag 49 f z)), λ g. refl)

pub deep_none : (s : List ℕ) (h : Head) → None (faulty s) (elements_of s 0 h) → ⊥
unfolding elements_of first
deep_none s h e = let n : ◌≡◌ {A = ℕ} 0 1 = cc in omega arith
