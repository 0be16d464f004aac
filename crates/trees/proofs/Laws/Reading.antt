-- An encoding is read back, wherever it stands: `reads_one`, of an element before a rest.
-- The walk finds nothing faulty, the tree that is read is the tree that was written, the SETs are in order exactly if the tree's are, and the lines
-- are the tree's. By induction on the levels, and within a level on the list of trees; never on the octets.
-- Assumes nothing.
use mathlib.Core.Path.{◌≡◌, refl, sym, ap, subst, ◌∙◌}
use mathlib.Core.Logic.{◌↔◌}
use mathlib.Core.List.{List, [], ◌∷◌, ◌++◌, map, map-append}
use mathlib.Core.Bool.{true, false, ◌||◌}
use Prim.Native.Nat.{ℕ, zero, suc, ◌+◌, ◌-◌, ◌≤◌, ◌<◌}
use native.Mathlib.Omega.{arith}
use lib.ListN.{length, length-append}
use lib.Dec.{leb}
use Rattle.trees.specs.Trees.{Tag, Tree, Trees, primitive, constructed, nothing, ◌then◌, identifier_octet, element, encode, encode_all, Good}
use Rattle.trees.specs.Trees.{AllGood, height, height_all, Ascending, encodings, universal_set, SetsOrdered, AllSetsOrdered}
use Rattle.trees.specs.Reading.{tag_of, trees_of, tree_of}
use Rattle.trees.specs.Outline.{line_of, outline, outline_all}
use Rattle.der.specs.Header.{whole_head, head_of, children_of}
use Rattle.der.specs.Contents.{constructed as is_constructed, universal_ok, element_ok}
use Rattle.der.specs.Order.{ascending, octets_of}
use Rattle.der.specs.Elements.{joined, elements_of}
use Rattle.der.specs.Soundness.{faulty, unordered, first}
use Rattle.der.specs.declared.header.Head.{Head}
use Rattle.der.proofs.Laws.Children.{children_done, children_next}
use Rattle.octets.specs.Octets.{octets_from}
use Rattle.octets.proofs.Laws.Octets.{octets_long}
use Rattle.octets.proofs.Laws.Parts.{part_same, part_cut}
use Rattle.trees.proofs.Laws.Values.{says_test}
use Rattle.trees.proofs.Laws.Identifier.{identifier_tag, identifier_form, tag_passes, type_kept}
use Rattle.trees.proofs.Laws.Element.{Reads, element_reads}
use Rattle.trees.proofs.Laws.Walks.{None, none_first, none_join, node_of, tree_plain, tree_list, elements_plain, elements_list, ok_fault}
use Rattle.trees.proofs.Laws.Walks.{ordered_plain, ordered_list}
use Rattle.trees.proofs.Laws.Encoding.{encode_some, ascending_same}

-- what the octets of t say where they are read as the element h at place at
pub record Here (s : List ℕ) (d at : ℕ) (t : Tree) (h : Head) : Type 0 where
  pub sound : None (faulty s) (elements_of s d h)
  pub same : tree_of s d h ≡ t
  pub past : h.end ≡ at + length (encode t)
  pub part : octets_of s h ≡ encode t
  pub order : None (unordered s) (elements_of s d h) ↔ SetsOrdered t
  pub lines : (depth : ℕ) → depth + d ≡ 17 → map line_of (elements_of s d h) ≡ outline t depth at

-- the same of several, one behind the other
record Back (s : List ℕ) (d at : ℕ) (ts : Trees) (hs : List Head) : Type 0 where
  pub sound : None (faulty s) (joined (elements_of s d) hs)
  pub same : trees_of (tree_of s d) hs ≡ ts
  pub parts : map (octets_of s) hs ≡ encodings ts
  pub order : None (unordered s) (joined (elements_of s d) hs) ↔ AllSetsOrdered ts
  pub lines : (depth : ℕ) → depth + d ≡ 17 → map line_of (joined (elements_of s d) hs) ≡ outline_all ts depth at

abbrev pub ReadsOne : ℕ → Type 0
ReadsOne d =
    (s : List ℕ) (at end : ℕ) (t : Tree) (rest : List ℕ) → end ≤ length s → Good t → height t ≤ d
    → octets_from s at (end - at) ≡ encode t ++ rest → Here s d at t (head_of s at end)

abbrev ReadsAll : ℕ → Type 0
ReadsAll d =
    (s : List ℕ) (at end : ℕ) (ts : Trees) → end ≤ length s → AllGood ts → height_all ts ≤ d → octets_from s at (end - at) ≡ encode_all ts
    → Back s d at ts (children_of s at end)

-- ---- one element, by its form

-- an element with this identifier octet and contents c, where it stands
module _ (s : List ℕ) (d at end identifier : ℕ) (c : List ℕ) (r : Reads s at end identifier c) where
  abbrev here : Head
  here = whole_head at identifier r.skip (length c)

  its_line : (depth : ℕ) → depth + suc d ≡ 17
      → line_of (node_of s d here) ≡ record { depth = depth; start = at; identifier = identifier; size = length (element identifier c) }
  its_line depth e =
      let z = r.size in
      let n : at + (r.skip + length c) - at ≡ length (element identifier c) = omega arith in
      let m : 17 - suc d ≡ depth = omega arith in
      λ i. record { depth = m i; start = at; identifier = identifier; size = n i }

  its_fault : (leb 64 identifier || universal_ok identifier c) ≡ true → faulty s (node_of s d here) ≡ false
  unfolding element_ok
  its_fault e = ok_fault s d here (ap (λ (l : List ℕ). leb 64 identifier || universal_ok identifier l) r.contents ∙ e)

  its_end : here.end ≡ at + length (element identifier c)
  its_end = ap (λ (n : ℕ). at + n) r.size

  its_body : at + r.skip ≡ at + (length (element identifier c) - length c)
  its_body = let z = r.size in omega arith

read_plain : (d : ℕ) (s : List ℕ) (at end : ℕ) (tag : Tag) (c rest : List ℕ) → end ≤ length s → Good (primitive tag c)
    → octets_from s at (end - at) ≡ encode (primitive tag c) ++ rest → Here s (suc d) at (primitive tag c) (head_of s at end)
unfolding Good encode SetsOrdered outline first
read_plain d s at end tag c rest w g e =
    let id = identifier_octet 0 tag in
    let low = g.0.0 in
    let form : is_constructed id ≡ false = identifier_form 0 tag (omega arith) low in
    let r = element_reads s at end id c rest w (tag_passes 0 tag (omega arith) low g.0.1) g.1 e in
    let h = whole_head at id r.skip (length c) in
    let walk = elements_plain s d h form in
    subst (Here s (suc d) at (primitive tag c)) (sym r.head)
    (record {
      sound =
          ap (first (faulty s)) walk ∙ (none_first (faulty s) (node_of s d h) []).1
          (its_fault s d at end id c r (type_kept 0 tag (omega arith) low c (λ u. says_test tag.number c (g.2 u))), refl);
      same = tree_plain s d h form ∙ (λ i. primitive (identifier_tag 0 tag (omega arith) low i) (r.contents i));
      past = its_end s d at end id c r;
      part = r.octets;
      order = ((λ x. tt), λ x. ap (first (unordered s)) walk ∙ (none_first (unordered s) (node_of s d h) []).1 (ordered_plain s d h form, refl));
      lines = λ depth k. ap (map line_of) walk ∙ (λ i. its_line s d at end id c r depth k i ∷ []);
    })

-- the order of a SET's members, by the octets that are read and by the tree
set_order : (tag : Tag) (ts : Trees) (xs : List (List ℕ)) → tag.number < 31 → AllGood ts → xs ≡ encodings ts
    → (identifier_octet 1 tag ≡ 49 → ascending xs ≡ true) ↔ (tag ≡ universal_set → Ascending (encodings ts))
set_order tag ts xs low g p =
    let a = ascending_same ts g in (
      (λ f e. a.0 (sym (ap ascending p) ∙ f (ap (identifier_octet 1) e))),
      λ f e. ap ascending p ∙ a.1 (f (sym (identifier_tag 1 tag (omega arith) low) ∙ ap tag_of e)),
    )

read_list : (d : ℕ) → ReadsAll d → (s : List ℕ) (at end : ℕ) (tag : Tag) (ts : Trees) (rest : List ℕ) → end ≤ length s
    → Good (constructed tag ts) → height (constructed tag ts) ≤ suc d → octets_from s at (end - at) ≡ encode (constructed tag ts) ++ rest
    → Here s (suc d) at (constructed tag ts) (head_of s at end)
unfolding Good encode height SetsOrdered outline
read_list d all s at end tag ts rest w g k e =
    let id = identifier_octet 1 tag in
    let c = encode_all ts in
    let low = g.0.0 in
    let form : is_constructed id ≡ true = identifier_form 1 tag (omega arith) low in
    let r = element_reads s at end id c rest w (tag_passes 1 tag (omega arith) low g.0.1) g.1 e in
    let h = whole_head at id r.skip (length c) in
    let inside = r.inside in
    let b = all s h.body h.end ts (omega arith) g.3 (omega arith) r.contents in
    let walk = elements_list s d h form in
    let set = set_order tag ts (map (octets_of s) (children_of s h.body h.end)) low g.3 b.parts in
    let sets = ordered_list s d h form in
    let here = none_first (unordered s) (node_of s d h) (joined (elements_of s d) (children_of s h.body h.end)) in
    subst (Here s (suc d) at (constructed tag ts)) (sym r.head)
    (record {
      sound =
          ap (first (faulty s)) walk ∙ (none_first (faulty s) (node_of s d h) (joined (elements_of s d) (children_of s h.body h.end))).1
          (its_fault s d at end id c r (type_kept 1 tag (omega arith) low c g.2), b.sound);
      same = tree_list s d h form ∙ (λ i. constructed (identifier_tag 1 tag (omega arith) low i) (b.same i));
      past = its_end s d at end id c r;
      part = r.octets;
      order = (
        (λ x. let y = here.0 (sym (ap (first (unordered s)) walk) ∙ x) in (set.0 (sets.0 y.0), b.order.0 y.1)),
        λ x. ap (first (unordered s)) walk ∙ here.1 (sets.1 (set.1 x.0), b.order.1 x.1),
      );
      lines =
          λ depth k.
          ap (map line_of) walk
          ∙ (λ i. its_line s d at end id c r depth k i ∷
          (b.lines (suc depth) (omega arith) ∙ ap (outline_all ts (suc depth)) (its_body s d at end id c r)) i);
    })

read_one : (d : ℕ) → ReadsAll d → ReadsOne (suc d)
read_one d all s at end (primitive tag c) rest w g k e = read_plain d s at end tag c rest w g e
read_one d all s at end (constructed tag ts) rest w g k e = read_list d all s at end tag ts rest w g k e

-- ---- several, one behind the other

read_none : (d : ℕ) (s : List ℕ) (at : ℕ) → Back s d at nothing []
unfolding trees_of encodings AllSetsOrdered outline_all first
read_none d s at = record { sound = refl; same = refl; parts = refl; order = ((λ x. tt), λ x. refl); lines = λ depth k. refl }

read_next : (d : ℕ) (s : List ℕ) (at : ℕ) (t : Tree) (ts : Trees) (h : Head) (hs : List Head) → Here s d at t h → Back s d h.end ts hs
    → Back s d at (t then ts) (h ∷ hs)
unfolding trees_of encodings AllSetsOrdered outline_all
read_next d s at t ts h hs one more =
    let join = none_join (unordered s) (elements_of s d h) (joined (elements_of s d) hs) in
    record {
      sound = (none_join (faulty s) (elements_of s d h) (joined (elements_of s d) hs)).1 (one.sound, more.sound);
      same = λ i. one.same i then more.same i;
      parts = λ i. one.part i ∷ more.parts i;
      order = (
        (λ x. let y = join.0 x in (one.order.0 y.0, more.order.0 y.1)),
        λ x. join.1 (one.order.1 x.0, more.order.1 x.1),
      );
      lines =
          λ depth k.
          map-append line_of (elements_of s d h) (joined (elements_of s d) hs)
          ∙ (λ i. one.lines depth k i ++ (more.lines depth k ∙ ap (outline_all ts depth) one.past) i);
    }

read_all : (d : ℕ) → ReadsOne d → ReadsAll d
unfolding AllGood encode_all height_all
read_all d one s at end nothing w g k e =
    let n : end - at ≡ 0 = sym (octets_long s at (end - at)) ∙ ap length e in
    rw (children_done s at end (omega arith)) (read_none d s at)
read_all d one s at end (t then ts) w g k e =
    let h = one s at end t (encode_all ts) w g.0 (omega arith) e in
    let n : end - at ≡ length (encode t) + length (encode_all ts) =
    sym (octets_long s at (end - at)) ∙ (ap length e ∙ length-append (encode t) (encode_all ts)) in
    let z = encode_some t in
    let p = h.past in
    let y : end - (head_of s at end).end ≡ end - at - length (encode t) = omega arith in
    let rest = part_same s _ _ _ _ p y ∙ (part_cut s at (end - at) (encode t) (encode_all ts) e).1 in
    rw (children_next s at end (omega arith))
    (read_next d s at t ts (head_of s at end) (children_of s (head_of s at end).end end) h
    (read_all d one s (head_of s at end).end end ts w g.1 (omega arith) rest))

height_some : (t : Tree) → height t ≤ 0 → ⊥
unfolding height
height_some (primitive tag c) h = omega arith
height_some (constructed tag ts) h = omega arith

pub reads_one : (d : ℕ) → ReadsOne d
reads_one zero = λ s at end t rest w g k e. absurd (height_some t k)
reads_one (suc d) = read_one d (read_all d (reads_one d))
