-- What the walk finds not faulty is an encoding: `writes_one`, of an element. The tree that is read is good, has no more levels than the walk, and
-- encodes to the octets that were read. By induction on the levels, and within a level on the list of elements.
-- Assumes nothing.
use mathlib.Core.Path.{◌≡◌, refl, sym, subst, ◌∙◌}
use mathlib.Core.List.{List, [], ◌++◌}
use mathlib.Core.Bool.{Bool, true, false, cond, ◌||◌}
use Prim.Native.Nat.{ℕ, zero, suc, ◌+◌, ◌-◌, ◌%◌, ◌≤◌}
use native.Mathlib.Omega.{arith}
use lib.Dec.{leb}
use Rattle.trees.specs.Trees.{Tree, Trees, identifier_octet, element, encode, encode_all, LengthOk, Good, AllGood, height, height_all}
use Rattle.trees.specs.Reading.{tag_of, trees_of, tree_of}
use Rattle.der.specs.Header.{tag_ok, length_of, length_ok, header_size, whole_head, head_of, children_of}
use Rattle.der.specs.Contents.{constructed as is_constructed, universal_ok, contents_of, element_ok}
use Rattle.der.specs.Elements.{held_by, joined, elements_of}
use Rattle.der.specs.Workings.Walk.{members_of}
use Rattle.der.specs.Soundness.{faulty}
use Rattle.der.proofs.Terms.Walking.{Chain}
use Rattle.der.proofs.Terms.Walking.Chain.{done, next}
use Rattle.der.specs.declared.header.Head.{Head}
use Rattle.der.proofs.Laws.Header.{head_forward}
use Rattle.der.proofs.Laws.Walking.{children_chain}
use Rattle.octets.specs.Octets.{Octets, octet_at, octets_from}
use Rattle.octets.proofs.Laws.Tests.{and_l}
use Rattle.octets.proofs.Laws.Parts.{part_same, part_meet}
use Rattle.trees.proofs.Laws.Values.{test_says}
use Rattle.trees.proofs.Laws.Identifier.{form_octet, octet_tag, kept_type}
use Rattle.trees.proofs.Laws.Lengths.{part_octets}
use Rattle.trees.proofs.Laws.Element.{head_passed, element_written}
use Rattle.trees.proofs.Laws.Walks.{None, none_first, none_join, node_of, tree_plain, tree_list, fault_ok, deep_none}

-- a tree of at most d levels that encodes to the octets from at to end
pub record Wrote (s : List ℕ) (d at end : ℕ) (t : Tree) : Type 0 where
  pub good : Good t
  pub high : height t ≤ d
  pub octets : encode t ≡ octets_from s at (end - at)

-- the same of several
record WroteAll (s : List ℕ) (d at end : ℕ) (ts : Trees) : Type 0 where
  good : AllGood ts
  high : height_all ts ≤ d
  octets : encode_all ts ≡ octets_from s at (end - at)

abbrev pub WritesOne : ℕ → Type 0
WritesOne d =
    (s : List ℕ) → Octets s → (at end : ℕ) → None (faulty s) (elements_of s d (head_of s at end))
    → Wrote s d at (head_of s at end).end (tree_of s d (head_of s at end))

abbrev WritesAll : ℕ → Type 0
WritesAll d =
    (s : List ℕ) → Octets s → (at end : ℕ) → at ≤ end → None (faulty s) (members_of s d at end)
    → WroteAll s d at end (trees_of (tree_of s d) (children_of s at end))

-- ---- one element

module _ (s : List ℕ) (o : Octets s) (d at : ℕ) (tag : tag_ok (octet_at s at) ≡ true) (len : length_ok s at ≡ true) where
  abbrev here : Head
  here = whole_head at (octet_at s at) (header_size s at) (length_of s at)

  abbrev contents : List ℕ
  contents = octets_from s (at + header_size s at) (length_of s at)

  its_contents : contents_of s here ≡ contents
  its_contents =
      let n : at + (header_size s at + length_of s at) - (at + header_size s at) ≡ length_of s at = omega arith in
      part_same s (at + header_size s at) (at + header_size s at) (at + (header_size s at + length_of s at) - (at + header_size s at)) (length_of s at) refl n

  module _ (c : List ℕ) (e : c ≡ contents_of s here) where
    its_length : LengthOk c
    its_length = subst LengthOk (sym (e ∙ its_contents)) (element_written s at o len).0

    its_octets : (b : Bool) → is_constructed (octet_at s at) ≡ b
        → element (identifier_octet (cond b 1 0) (tag_of (octet_at s at))) c ≡ octets_from s at (here.end - at)
    its_octets b f =
        let n : header_size s at + length_of s at ≡ at + (header_size s at + length_of s at) - at = omega arith in
        (λ i. element (form_octet (octet_at s at) (o at) b f i) ((e ∙ its_contents) i))
        ∙ ((element_written s at o len).1 ∙ part_same s at at (header_size s at + length_of s at) (at + (header_size s at + length_of s at) - at) refl n)

  module _ (kept : (leb 64 (octet_at s at) || universal_ok (octet_at s at) (contents_of s here)) ≡ true) where
    write_plain : is_constructed (octet_at s at) ≡ false → Wrote s (suc d) at here.end (tree_of s (suc d) here)
    unfolding Good height encode
    write_plain f =
        subst (Wrote s (suc d) at here.end) (sym (tree_plain s d here f))
        (record {
          good = (
            octet_tag (octet_at s at) (o at) tag,
            its_length (contents_of s here) refl,
            (λ u.
                test_says (octet_at s at % 32) (contents_of s here) (part_octets s o here.body (here.end - here.body))
                (kept_type (octet_at s at) (o at) (contents_of s here) false f kept u)),
            part_octets s o here.body (here.end - here.body),
          );
          high = omega arith;
          octets = its_octets (contents_of s here) refl false f;
        })

    write_list : is_constructed (octet_at s at) ≡ true
        → WroteAll s d here.body here.end (trees_of (tree_of s d) (children_of s here.body here.end))
        → Wrote s (suc d) at here.end (tree_of s (suc d) here)
    unfolding Good height encode
    write_list f w =
        let h = w.high in
        subst (Wrote s (suc d) at here.end) (sym (tree_list s d here f))
        (record {
          good = (
            octet_tag (octet_at s at) (o at) tag,
            its_length (encode_all (trees_of (tree_of s d) (children_of s here.body here.end))) w.octets,
            kept_type (octet_at s at) (o at) (contents_of s here) true f kept,
            w.good,
          );
          high = omega arith;
          octets = its_octets (encode_all (trees_of (tree_of s d) (children_of s here.body here.end))) w.octets true f;
        })

  write_here : WritesAll d → element_ok s here ≡ true → None (faulty s) (joined (elements_of s d) (held_by s here))
      → Wrote s (suc d) at here.end (tree_of s (suc d) here)
  unfolding element_ok
  write_here all k e = go (is_constructed (octet_at s at)) refl e
    where
      go : (b : Bool) → is_constructed (octet_at s at) ≡ b
          → None (faulty s) (joined (elements_of s d) (cond b (children_of s here.body here.end) []))
          → Wrote s (suc d) at here.end (tree_of s (suc d) here)
      go false f n = write_plain k f
      go true f n = write_list k f (all s o here.body here.end (omega arith) n)

write_one : (d : ℕ) → WritesAll d → WritesOne (suc d)
unfolding elements_of element_ok
write_one d all s o at end e =
    let h = head_of s at end in
    let f = (none_first (faulty s) (node_of s d h) (joined (elements_of s d) (held_by s h))).0 e in
    let ok = fault_ok s d h f.0 in
    let p = head_passed s at end (and_l h.sound (leb 64 h.tag || universal_ok h.tag (contents_of s h)) ok) in
    subst
    (λ (h : Head). element_ok s h ≡ true → None (faulty s) (joined (elements_of s d) (held_by s h)) → Wrote s (suc d) at h.end (tree_of s (suc d) h))
    (sym p.head)
    (write_here s o d at p.tag p.length all)
    ok
    f.1

-- ---- several, one behind the other

module _ (d : ℕ) (one : WritesOne d) (s : List ℕ) (o : Octets s) (end : ℕ) where
  write_all : {at : ℕ} {hs : List Head} → Chain s end at hs → at ≤ end → None (faulty s) (joined (elements_of s d) hs)
      → WroteAll s d at end (trees_of (tree_of s d) hs)
  unfolding trees_of encode_all AllGood height_all octets_from
  write_all done l e =
      let n : end - end ≡ 0 = omega arith in
      record { good = tt; high = omega arith; octets = rw n }
  write_all (next {at = at} {hs = hs} l r) k e =
      let h = head_of s at end in
      let f = head_forward s at end l in
      let n = (none_join (faulty s) (elements_of s d h) (joined (elements_of s d) hs)).0 e in
      let a = one s o at end n.0 in
      let b = write_all r f.1 n.1 in
      let p = a.high in
      let q = b.high in
      record {
        good = (a.good, b.good);
        high = omega arith;
        octets = (λ i. a.octets i ++ b.octets i) ∙ part_meet s at h.end end (omega arith) f.1;
      }

pub writes_one : (d : ℕ) → WritesOne d
writes_one zero = λ s o at end e. absurd (deep_none s (head_of s at end) e)
writes_one (suc d) = write_one d (λ s o at end l. write_all d (writes_one d) s o end (children_chain s at end l) l)
