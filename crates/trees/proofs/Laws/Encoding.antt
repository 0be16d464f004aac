-- The encoding of a tree.
--     encode_some        it is not empty
--     encode_longer      it has no fewer octets than the tree has levels
--     encode_octets      it is octets
--     encode_alone       no encoding begins another
--     padded_same        so padding changes nothing in the order of two encodings,
--     ascending_same     nor in that of the members of a SET
-- Assumes nothing.
use mathlib.Core.Path.{◌≡◌, refl, sym, ap, ◌∙◌}
use mathlib.Core.Logic.{◌↔◌}
use mathlib.Core.List.{List, [], ◌∷◌, ◌++◌}
use mathlib.Core.Bool.{Bool, true, false, cond, ◌&&◌}
use Prim.Native.Nat.{ℕ, suc, ◌+◌, ◌-◌, ◌≤◌, ◌<◌}
use native.Mathlib.Omega.{arith}
use lib.ListN.{length, length-append}
use lib.Dec.{ltb}
use borrow.Author.Tests.{ltb-true, ltb-false}
use Rattle.trees.specs.Numbers.{number_octets}
use Rattle.trees.specs.Trees.{Tree, Trees, primitive, constructed, nothing, ◌then◌, identifier_octet, length_octets, element}
use Rattle.trees.specs.Trees.{encode, encode_all, LengthOk, Good, AllGood, height, height_all, zeros, padded, Ascending, encodings}
use Rattle.octets.specs.Octets.{Octets}
use Rattle.der.specs.Header.{tag_ok}
use Rattle.der.specs.Order.{octets_le, ascend_from, ascending}
use Rattle.octets.proofs.Laws.Tests.{and_l, and_r}
use Rattle.trees.proofs.Laws.Numbers.{octets_put, number_octets_lem}
use Rattle.trees.proofs.Laws.Identifier.{identifier_octet_lem, tag_passes}
use Rattle.trees.proofs.Laws.Element.{element_longer, element_alone}

-- ---- its octets

octets_join : (xs ys : List ℕ) → Octets xs → Octets ys → Octets (xs ++ ys)
octets_join [] ys p q = q
octets_join (x ∷ xs) ys p q = octets_put x (xs ++ ys) (p 0) (octets_join xs ys (λ i. p (suc i)) q)

length_octets_lem : (n : ℕ) → length (number_octets n) < 127 → Octets (length_octets n)
unfolding length_octets
length_octets_lem n few = go (ltb n 128) refl
  where
    go : (b : Bool) → ltb n 128 ≡ b → Octets (cond b (n ∷ []) ((128 + length (number_octets n)) ∷ number_octets n))
    go true e = octets_put n [] (let h = ltb-true n 128 e in omega arith) (λ i. omega arith)
    go false e = octets_put (128 + length (number_octets n)) (number_octets n) (omega arith) (number_octets_lem n)

element_octets : (identifier : ℕ) (c : List ℕ) → identifier < 256 → LengthOk c → Octets c → Octets (element identifier c)
unfolding element
element_octets identifier c h few o =
    octets_put identifier (length_octets (length c) ++ c) h (octets_join (length_octets (length c)) c (length_octets_lem (length c) few) o)

mutual
  unfolding Good encode

  pub encode_octets : (t : Tree) → Good t → Octets (encode t)
  encode_octets (primitive tag c) g = element_octets (identifier_octet 0 tag) c (identifier_octet_lem 0 tag (omega arith) g.0.0) g.1 g.3
  encode_octets (constructed tag ts) g =
      element_octets (identifier_octet 1 tag) (encode_all ts) (identifier_octet_lem 1 tag (omega arith) g.0.0) g.1 (all_octets ts g.3)

  all_octets : (ts : Trees) → AllGood ts → Octets (encode_all ts)
  all_octets nothing g = λ i. omega arith
  all_octets (t then ts) g = octets_join (encode t) (encode_all ts) (encode_octets t g.0) (all_octets ts g.1)

pub encode_some : (t : Tree) → 0 < length (encode t)
unfolding encode
encode_some (primitive tag c) = let k = element_longer (identifier_octet 0 tag) c in omega arith
encode_some (constructed tag ts) = let k = element_longer (identifier_octet 1 tag) (encode_all ts) in omega arith

mutual
  unfolding height encode

  pub encode_longer : (t : Tree) → height t ≤ length (encode t)
  encode_longer (primitive tag c) = let l = element_longer (identifier_octet 0 tag) c in omega arith
  encode_longer (constructed tag ts) = let k = all_longer ts in let l = element_longer (identifier_octet 1 tag) (encode_all ts) in omega arith

  all_longer : (ts : Trees) → height_all ts ≤ length (encode_all ts)
  all_longer nothing = omega arith
  all_longer (t then ts) =
      let k = encode_longer t in
      let l = all_longer ts in
      let n = length-append (encode t) (encode_all ts) in
      omega arith

-- ---- two encodings

-- an encoding is an element with a sound header
record Headed (t : Tree) : Type 0 where
  identifier : ℕ
  contents : List ℕ
  tag : tag_ok identifier ≡ true
  few : LengthOk contents
  whole : encode t ≡ element identifier contents

headed : (t : Tree) → Good t → Headed t
unfolding Good encode
headed (primitive tag c) g =
    record { identifier = identifier_octet 0 tag; contents = c; tag = tag_passes 0 tag (omega arith) g.0.0 g.0.1; few = g.1; whole = refl }
headed (constructed tag ts) g =
    record { identifier = identifier_octet 1 tag; contents = encode_all ts; tag = tag_passes 1 tag (omega arith) g.0.0 g.0.1; few = g.1; whole = refl }

pub encode_alone : (t u : Tree) (x : List ℕ) → Good t → Good u → encode t ++ x ≡ encode u → x ≡ []
encode_alone t u x g h e =
    let a = headed t g in
    let b = headed u h in
    element_alone a.identifier b.identifier a.contents b.contents x a.tag b.tag a.few b.few
    (ap (λ (l : List ℕ). l ++ x) (sym a.whole) ∙ (e ∙ b.whole))

pub padded_same : (x y : List ℕ) → ((z : List ℕ) → x ++ z ≡ y → z ≡ []) → ((z : List ℕ) → y ++ z ≡ x → z ≡ [])
    → octets_le (padded (length y) x) (padded (length x) y) ≡ octets_le x y
unfolding padded zeros octets_le
padded_same [] [] f g = refl
padded_same [] (y ∷ ys) f g = let n : suc (length ys) ≡ 0 = ap length (f (y ∷ ys) refl) in absurd (omega arith)
padded_same (x ∷ xs) [] f g = let n : suc (length xs) ≡ 0 = ap length (g (x ∷ xs) refl) in absurd (omega arith)
padded_same (x ∷ xs) (y ∷ ys) f g =
    go (ltb x y) refl (ltb y x) refl (λ e. padded_same xs ys (λ z q. f z (λ i. e i ∷ q i)) (λ z q. g z (λ i. sym e i ∷ q i)))
  where
    left : List ℕ
    left = xs ++ zeros (suc (length ys) - suc (length xs))

    right : List ℕ
    right = ys ++ zeros (suc (length xs) - suc (length ys))

    go : (b : Bool) → ltb x y ≡ b → (c : Bool) → ltb y x ≡ c
        → (x ≡ y → octets_le (padded (length ys) xs) (padded (length xs) ys) ≡ octets_le xs ys)
        → cond b true (cond c false (octets_le left right)) ≡ cond b true (cond c false (octets_le xs ys))
    go true p c q ih = refl
    go false p true q ih = refl
    go false p false q ih =
        let a : suc (length ys) - suc (length xs) ≡ length ys - length xs = omega arith in
        let b : suc (length xs) - suc (length ys) ≡ length xs - length ys = omega arith in
        let h = ltb-false x y p in
        let k = ltb-false y x q in
        (λ i. octets_le (xs ++ zeros (a i)) (ys ++ zeros (b i))) ∙ ih (omega arith)

not_after : (t u : Tree) → Good t → Good u
    → octets_le (padded (length (encode u)) (encode t)) (padded (length (encode t)) (encode u)) ≡ octets_le (encode t) (encode u)
not_after t u g h = padded_same (encode t) (encode u) (λ z. encode_alone t u z g h) (λ z. encode_alone u t z h g)

ascend_after : (t : Tree) (ts : Trees) → Good t → AllGood ts → (ascend_from (encode t) (encodings ts) ≡ true) ↔ Ascending (encode t ∷ encodings ts)
unfolding encodings AllGood ascend_from Ascending
ascend_after t nothing g h = ((λ e. tt), λ e. refl)
ascend_after t (u then us) g h =
    let n = not_after t u g h.0 in
    let ih = ascend_after u us h.0 h.1 in (
      (λ e. (
        n ∙ and_l (octets_le (encode t) (encode u)) (ascend_from (encode u) (encodings us)) e,
        ih.0 (and_r (octets_le (encode t) (encode u)) (ascend_from (encode u) (encodings us)) e),
      )),
      λ e. λ i. (sym n ∙ e.0) i && ih.1 e.1 i,
    )

pub ascending_same : (ts : Trees) → AllGood ts → (ascending (encodings ts) ≡ true) ↔ Ascending (encodings ts)
unfolding encodings AllGood ascend_from Ascending octets_le
ascending_same nothing g = ((λ e. tt), λ e. refl)
ascending_same (t then ts) g = ascend_after t ts g.0 g.1
