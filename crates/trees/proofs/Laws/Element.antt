-- One element: its header and contents written, and read.
--     element_reads        where an element is written, with a rest behind it: the head that is read there, and the contents (`Reads`)
--     head_passed          a sound head by the octets that it is read from (`Passed`)
--     element_written      an element that is read is what is written for its identifier octet and contents
--     element_longer       an element is longer than its contents
--     whole                all of a list, as a stretch from 0
--     element_alone        no element begins another
-- Assumes nothing.
use mathlib.Core.Path.{◌≡◌, refl, sym, ap, ◌∙◌}
use mathlib.Core.List.{List, [], ◌∷◌, ◌++◌, append_assoc, append-nil}
use mathlib.Core.Bool.{Bool, true, false, cond, ◌&&◌}
use Prim.Native.Nat.{ℕ, suc, ◌+◌, ◌-◌, ◌≤◌, ◌<◌}
use native.Mathlib.Omega.{arith}
use lib.ListN.{length, length-append}
use lib.Dec.{leb}
use borrow.Author.Tests.{le-leb}
use Rattle.trees.specs.Trees.{length_octets, element, LengthOk}
use Rattle.der.specs.Header.{tag_ok, length_of, length_ok, header_size, whole_head, broken_head, head_if, head_of}
use Rattle.der.specs.Contents.{contents_of}
use Rattle.der.specs.Order.{octets_of}
use Rattle.der.specs.declared.header.Head.{Head}
use Rattle.der.proofs.Laws.Header.{head_whole}
use Rattle.octets.specs.Octets.{Octets, octet_at, octets_from}
use Rattle.octets.proofs.Laws.Octets.{octets_long, octets_whole}
use Rattle.octets.proofs.Laws.Tests.{and_l, and_r}
use Rattle.octets.proofs.Laws.Parts.{head_same, tail_same, part_same, part_join, part_cut}
use Rattle.trees.proofs.Laws.Lengths.{length_reads, length_written}

pub element_longer : (identifier : ℕ) (c : List ℕ) → length c < length (element identifier c)
unfolding element
element_longer identifier c = let k = length-append (length_octets (length c)) c in omega arith

-- ---- written, then read

-- what is read where an element is written at place at, in a container that ends at end
pub record Reads (s : List ℕ) (at end identifier : ℕ) (c : List ℕ) : Type 0 where
  pub skip : ℕ
  pub head : head_of s at end ≡ whole_head at identifier skip (length c)
  pub contents : contents_of s (whole_head at identifier skip (length c)) ≡ c
  pub octets : octets_of s (whole_head at identifier skip (length c)) ≡ element identifier c
  pub size : skip + length c ≡ length (element identifier c)
  pub inside : at + (skip + length c) ≤ end

module _ (s : List ℕ) (at end identifier : ℕ) (c rest : List ℕ) (w : end ≤ length s) (t : tag_ok identifier ≡ true) (few : LengthOk c)
    (e : octets_from s at (end - at) ≡ element identifier c ++ rest) where
  abbrev header : List ℕ
  header = length_octets (length c)

  abbrev skips : ℕ
  skips = suc (length header)

  cut : (octets_from s at skips ≡ identifier ∷ header) × (octets_from s (at + skips) (end - at - skips) ≡ c ++ rest)
  unfolding element
  cut = part_cut s at (end - at) (identifier ∷ header) (c ++ rest) (e ∙ ap (λ (l : List ℕ). identifier ∷ l) (append_assoc header c rest))

  sized : skips + length c ≡ length (element identifier c)
  unfolding element
  sized = let k = length-append header c in omega arith

  within : at + (skips + length c) ≤ end
  within =
      let n : end - at ≡ length (element identifier c) + length rest =
      sym (octets_long s at (end - at)) ∙ (ap length e ∙ length-append (element identifier c) rest) in
      let m = sized in
      omega arith

  read_head : head_of s at end ≡ whole_head at identifier skips (length c)
  unfolding head_of octets_from
  read_head =
      let len = length_reads s at (length c) few (tail_same _ _ _ _ cut.0) in
      (λ i. head_if (le-leb end (length s) w i && len.sound i) at end (head_same _ _ _ _ cut.0 i) (len.skip i) (len.said i))
      ∙ sym (head_whole true at end identifier skips (length c) (tag_ok identifier) (leb (at + (skips + length c)) end) refl refl
      (λ i. t i && le-leb (at + (skips + length c)) end within i))

  pub element_reads : Reads s at end identifier c
  element_reads =
      let m : at + (skips + length c) - (at + skips) ≡ length c = omega arith in
      let n : at + (skips + length c) - at ≡ length (element identifier c) = omega (arith, sized) in
      record {
        skip = skips;
        head = read_head;
        contents =
            part_same s (at + skips) (at + skips) (at + (skips + length c) - (at + skips)) (length c) refl m
            ∙ (part_cut s (at + skips) (end - at - skips) c rest cut.1).0;
        octets =
            part_same s at at (at + (skips + length c) - at) (length (element identifier c)) refl n
            ∙ (part_cut s at (end - at) (element identifier c) rest e).0;
        size = sized;
        inside = within;
      }

-- ---- read, then written

pub record Passed (s : List ℕ) (at end : ℕ) : Type 0 where
  pub head : head_of s at end ≡ whole_head at (octet_at s at) (header_size s at) (length_of s at)
  pub tag : tag_ok (octet_at s at) ≡ true
  pub length : length_ok s at ≡ true

pub head_passed : (s : List ℕ) (at end : ℕ) → (head_of s at end).sound ≡ true → Passed s at end
unfolding head_of
head_passed s at end e = go ((leb end (length s) && length_ok s at) && (tag_ok (octet_at s at) && leb (at + (header_size s at + length_of s at)) end)) refl e
  where
    here : Bool → Head
    here b = cond b (whole_head at (octet_at s at) (header_size s at) (length_of s at)) (broken_head at end)

    go : (b : Bool)
        → ((leb end (length s) && length_ok s at) && (tag_ok (octet_at s at) && leb (at + (header_size s at + length_of s at)) end)) ≡ b
        → (here b).sound ≡ true → Passed s at end
    go true f g =
        let inner = and_r (leb end (length s) && length_ok s at) (tag_ok (octet_at s at) && leb (at + (header_size s at + length_of s at)) end) f in
        record {
          head = ap here f;
          tag = and_l (tag_ok (octet_at s at)) (leb (at + (header_size s at + length_of s at)) end) inner;
          length =
              and_r (leb end (length s)) (length_ok s at)
              (and_l (leb end (length s) && length_ok s at) (tag_ok (octet_at s at) && leb (at + (header_size s at + length_of s at)) end) f);
        }
    go false f g = record { head = cc; tag = cc; length = cc }

pub element_written : (s : List ℕ) (at : ℕ) → Octets s → length_ok s at ≡ true
    → LengthOk (octets_from s (at + header_size s at) (length_of s at))
    × (element (octet_at s at) (octets_from s (at + header_size s at) (length_of s at)) ≡ octets_from s at (header_size s at + length_of s at))
unfolding element octets_from
element_written s at o k =
    let len = length_written s at o k in
    let m = octet_at s (at + 1) - 128 in
    let n : length (octets_from s (at + header_size s at) (length_of s at)) ≡ length_of s at = octets_long s (at + header_size s at) (length_of s at) in
    let p : header_size s at + length_of s at ≡ suc (suc m + length_of s at) = omega arith in
    let q : at + header_size s at ≡ at + 1 + suc m = omega arith in (
      rw n len.few,
      (λ i. octet_at s at ∷ (ap length_octets n ∙ len.octets) i ++ octets_from s (q i) (length_of s at))
          ∙ (ap (λ (l : List ℕ). octet_at s at ∷ l) (sym (part_join s (at + 1) (suc m) (length_of s at)))
          ∙ part_same s at at (suc (suc m + length_of s at)) (header_size s at + length_of s at) refl (sym p)),
    )

-- ---- two elements

empty : (x : List ℕ) → length x ≡ 0 → x ≡ []
empty [] e = refl
empty (b ∷ bs) e = absurd (omega arith)

pub whole : (s : List ℕ) → octets_from s 0 (length s - 0) ≡ s
whole s = let n : length s - 0 ≡ length s = omega arith in part_same s 0 0 (length s - 0) (length s) refl n ∙ octets_whole s

pub element_alone : (i j : ℕ) (c d x : List ℕ) → tag_ok i ≡ true → tag_ok j ≡ true → LengthOk c → LengthOk d → element i c ++ x ≡ element j d → x ≡ []
element_alone i j c d x t u k l e =
    let s = element j d in
    let a = element_reads s 0 (length s) i c x (omega arith) t k (whole s ∙ sym e) in
    let b = element_reads s 0 (length s) j d [] (omega arith) u l (whole s ∙ sym (append-nil s)) in
    let p : 0 + (a.skip + length c) ≡ 0 + (b.skip + length d) = ap (λ (h : Head). h.end) (sym a.head ∙ b.head) in
    let q = a.size in
    let r = b.size in
    let n : length (element i c) + length x ≡ length s = sym (length-append (element i c) x) ∙ ap length e in
    empty x (omega arith)
