-- The identifier octet, written and read. `form` is 0 or 1, bit 6.
--     unequal                                               two numbers that a test tells apart
--     identifier_octet_lem, identifier_form, identifier_tag     it is an octet, its bit 6 is the form, and its tag reads back
--     tag_passes                                            a tag that is right passes the test that is made of the octet
--     form_octet, octet_tag                                 an octet is written for its own form and tag, which is right if the octet passes the test
--     type_kept, kept_type                                  a universal type's form and contents, by the tag and by the octet
-- Assumes nothing.
use mathlib.Core.Path.{◌≡◌, refl, sym, ap, ◌∙◌}
use mathlib.Core.List.{List}
use mathlib.Core.Bool.{Bool, true, false, cond, not, ◌&&◌, ◌||◌}
use Prim.Native.Nat.{ℕ, zero, suc, ◌%◌, ◌/◌, ◌<◌}
use native.Mathlib.Omega.{arith}
use lib.Dec.{leb, eqb}
use borrow.Author.Tests.{ne_eqb, eqb-false, lt-leb, leb-false, not-true, not-false, eqb-true}
use Rattle.trees.specs.Trees.{Class, universal, application, context_specific, private, Tag, class_bits, identifier_octet, reserved, TagOk}
use Rattle.trees.specs.Reading.{class_of, tag_of}
use Rattle.der.specs.Header.{tag_ok}
use Rattle.der.specs.Contents.{constructed as is_constructed, holds_elements, primitive_ok, universal_ok}
use Rattle.octets.proofs.Laws.Tests.{and_l, and_r}

pub unequal : (a b : ℕ) → not (eqb a b) ≡ true → a ≡ b → ⊥
unequal a b e = eqb-false a b (not-true (eqb a b) e)

-- ---- classes

bits_four : (c : Class) → class_bits c < 4
bits_four universal = omega arith
bits_four application = omega arith
bits_four context_specific = omega arith
bits_four private = omega arith

class_bits_lem : (c : Class) → class_of (class_bits c) ≡ c
class_bits_lem universal = refl
class_bits_lem application = refl
class_bits_lem context_specific = refl
class_bits_lem private = refl

bits_class : (n : ℕ) → n < 4 → class_bits (class_of n) ≡ n
bits_class zero h = refl
bits_class (suc zero) h = refl
bits_class (suc (suc zero)) h = refl
bits_class (suc (suc (suc zero))) h = refl
bits_class (suc (suc (suc (suc n)))) h = absurd (omega arith)

-- ---- written, then read

module _ (form : ℕ) (tag : Tag) (f : form < 2) (l : tag.number < 31) where
  abbrev octet : ℕ
  octet = identifier_octet form tag

  pub identifier_octet_lem : octet < 256
  identifier_octet_lem = let b = bits_four tag.class in omega arith

  its_class : octet / 64 ≡ class_bits tag.class
  its_class = let b = bits_four tag.class in omega arith

  its_number : octet % 32 ≡ tag.number
  its_number = omega arith

  its_form : octet / 32 % 2 ≡ form
  its_form = omega arith

  pub identifier_tag : tag_of octet ≡ tag
  identifier_tag = λ i. record { class = (ap class_of its_class ∙ class_bits_lem tag.class) i; number = its_number i }

  pub identifier_form : is_constructed octet ≡ not (eqb form 0)
  identifier_form = ap (λ (n : ℕ). not (eqb n 0)) its_form

  pub tag_passes : (tag ≡ reserved → ⊥) → tag_ok octet ≡ true
  tag_passes r =
      rw (
        ne_eqb (octet % 32) 31 (λ e. omega arith),
        ne_eqb octet 0 (λ e. r (sym identifier_tag ∙ ap tag_of e)),
        ne_eqb octet 32 (λ e. r (sym identifier_tag ∙ ap tag_of e)),
      )

  pub type_kept : (c : List ℕ)
      → (tag.class ≡ universal → cond (not (eqb form 0)) (holds_elements tag.number) (primitive_ok tag.number c) ≡ true)
      → (leb 64 octet || universal_ok octet c) ≡ true
  type_kept c u = go (leb 64 octet) refl
    where
      go : (t : Bool) → leb 64 octet ≡ t → (t || universal_ok octet c) ≡ true
      go true e = refl
      go false e =
          let n = leb-false 64 octet e in
          let z : class_bits tag.class ≡ 0 = omega (arith, its_class) in
          (λ i. cond (identifier_form i) (holds_elements (its_number i)) (primitive_ok (its_number i) c)) ∙ u (sym (class_bits_lem tag.class) ∙ ap class_of z)

-- ---- read, then written

module _ (octet : ℕ) (h : octet < 256) where
  by_form : (form : ℕ) → octet / 32 % 2 ≡ form → identifier_octet form (tag_of octet) ≡ octet
  by_form form f = let b = bits_class (octet / 64) (omega arith) in omega arith

  pub form_octet : (b : Bool) → is_constructed octet ≡ b → identifier_octet (cond b 1 0) (tag_of octet) ≡ octet
  form_octet true e =
      let n = unequal (octet / 32 % 2) 0 e in
      by_form 1 (omega arith)
  form_octet false e = by_form 0 (eqb-true (octet / 32 % 2) 0 (not-false (eqb (octet / 32 % 2) 0) e))

  class_low : class_of (octet / 64) ≡ universal → octet < 64
  class_low e =
      let z : octet / 64 ≡ 0 = sym (bits_class (octet / 64) (omega arith)) ∙ ap class_bits e in
      omega arith

  pub kept_type : (c : List ℕ) (b : Bool) → is_constructed octet ≡ b → (leb 64 octet || universal_ok octet c) ≡ true
      → (tag_of octet).class ≡ universal → cond b (holds_elements (octet % 32)) (primitive_ok (octet % 32) c) ≡ true
  kept_type c b f e u = let k : universal_ok octet c ≡ true = rw (lt-leb 64 octet (class_low u)) at e in rw f at k

  pub octet_tag : tag_ok octet ≡ true → TagOk (tag_of octet)
  octet_tag e =
      let a = unequal (octet % 32) 31 (and_l (not (eqb (octet % 32) 31)) (not (eqb octet 0) && not (eqb octet 32)) e) in
      let r = and_r (not (eqb (octet % 32) 31)) (not (eqb octet 0) && not (eqb octet 32)) e in
      let b = unequal octet 0 (and_l (not (eqb octet 0)) (not (eqb octet 32)) r) in
      let c = unequal octet 32 (and_r (not (eqb octet 0)) (not (eqb octet 32)) r) in
      (omega arith, λ q. none b c (class_low (ap (λ (t : Tag). t.class) q)) (ap (λ (t : Tag). t.number) q))
    where
      none : (octet ≡ 0 → ⊥) → (octet ≡ 32 → ⊥) → octet < 64 → octet % 32 ≡ 0 → ⊥
      none b c k z = omega arith
