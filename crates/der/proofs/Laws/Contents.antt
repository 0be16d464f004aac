-- Contents by the tests that are made of single octets.
--     boolean_law, integer_law, bits_law, null_law     contents of n octets
--     last_law                                         the last octet of a stretch
--     oid_none, oid_some                               an object identifier by its arcs
--     arcs_bad, arcs_good, arcs_done                   its octets from the kth on
--     holds_rare, holds_no                             whether a type holds elements
--     number_integer, number_other                     primitive contents by the type's number
--     element_universal, element_other, element_broken     an element by its header and class
--     byte_shift, byte_mod                             a byte 1 shifted by k; a byte modulo a power of two above it
-- Assumes nothing.
use mathlib.Core.Path.{◌≡◌, refl, sym, ap, ◌∙◌}
use mathlib.Core.List.{List}
use mathlib.Core.Logic.{◌⊎◌, inl, inr}
use mathlib.Core.Bool.{Bool, true, false, not, ◌&&◌, ◌||◌}
use Prim.Native.Nat.{ℕ, zero, suc, ◌+◌, ◌-◌, ◌*◌, ◌%◌, ◌^◌, ◌≤◌, ◌<◌}
use native.Mathlib.Nat.{add-zero, sub-zero, one-mul, mod-eq_of_lt, lt_of_lt_of_le}
use native.Mathlib.Omega.{arith}
use lib.Pow.{pow-lt, pow_mono}
use lib.Dec.{ltb, leb, eqb}
use borrow.Author.Tests.{ne_eqb, eqb-true, le-leb, lt-leb}
use Rattle.der.specs.Contents.{holds_elements, boolean_ok, integer_ok, last_of, bits_ok, null_ok, arcs_ok, oid_ok, primitive_ok, universal_ok, element_ok}
use Rattle.der.specs.declared.header.Head.{Head}
use Rattle.octets.specs.Octets.{octet_at, octets_from}
use Rattle.octets.proofs.Laws.Octets.{octets_done, octets_next}

pub byte_shift : (k : ℕ) → k < 8 → 1 * 2 ^ k % 256 ≡ 2 ^ k
byte_shift k h = ap (λ (m : ℕ). m % 256) (one-mul (2 ^ k)) ∙ mod-eq_of_lt (pow-lt h)

pub byte_mod : (b k : ℕ) → b < 256 → 8 ≤ k → b % 2 ^ k ≡ b
byte_mod b k h l = mod-eq_of_lt (lt_of_lt_of_le h (pow_mono l))

pub boolean_law : (s : List ℕ) (body n b : ℕ) → b ≡ octet_at s body → (eqb n 1 && (eqb b 0 || eqb b 255)) ≡ boolean_ok (octets_from s body n)
unfolding octets_from
boolean_law s body zero b e = refl
boolean_law s body (suc zero) b e = rw e
boolean_law s body (suc (suc n)) b e = rw (ne_eqb (suc (suc n)) 1 (λ h. omega arith))

pub integer_law : (s : List ℕ) (body n a b : ℕ) → a ≡ octet_at s body → b ≡ octet_at s (body + 1)
    → (not (eqb n 0) && (eqb n 1 || not (eqb a 0 && ltb b 128 || eqb a 255 && leb 128 b))) ≡ integer_ok (octets_from s body n)
unfolding octets_from
integer_law s body zero a b e f = refl
integer_law s body (suc zero) a b e f = refl
integer_law s body (suc (suc n)) a b e f = rw (ne_eqb (suc (suc n)) 0 (λ h. omega arith), ne_eqb (suc (suc n)) 1 (λ h. omega arith), e, f)

pub last_law : (s : List ℕ) (a m : ℕ) → last_of (octet_at s a) (octets_from s (a + 1) m) ≡ octet_at s (a + m)
unfolding octets_from
last_law s a zero = rw add-zero
last_law s a (suc m) =
    let e : a + 1 + m ≡ a + suc m = omega arith in
    last_law s (a + 1) m ∙ ap (octet_at s) e

and_false : (b : Bool) → (b && false) ≡ false
and_false true = refl
and_false false = refl

-- one octet says how many bits are unused, and none follows
bits_alone : (u : ℕ) → (ltb u 8 && ((false || eqb u 0) && eqb (u % 2 ^ u) 0)) ≡ eqb u 0
bits_alone u = go (eqb u 0) refl
  where
    go : (t : Bool) → eqb u 0 ≡ t → (ltb u 8 && (t && eqb (u % 2 ^ u) 0)) ≡ t
    go true e = rw (eqb-true u 0 e)
    go false e = and_false (ltb u 8)

pub bits_law : (s : List ℕ) (body n u l : ℕ) (low : Bool) → u ≡ octet_at s body → l ≡ octet_at s (body + (n - 1)) → low ≡ eqb (l % 2 ^ u) 0
    → (not (eqb n 0) && (ltb u 8 && ((not (eqb n 1) || eqb u 0) && low))) ≡ bits_ok (octets_from s body n)
unfolding octets_from
bits_law s body zero u l low e f g = refl
bits_law s body (suc zero) u l low e f g =
    let k : l ≡ u = f ∙ ap (octet_at s) (add-zero body) ∙ sym e in
    rw (g, k) (bits_alone u ∙ ap (λ (m : ℕ). eqb m 0) e)
bits_law s body (suc (suc n)) u l low e f g =
    let i : body + (suc (suc n) - 1) ≡ body + 1 + n = omega arith in
    let k : l ≡ last_of (octet_at s (body + 1)) (octets_from s (body + 1 + 1) n) = f ∙ ap (octet_at s) i ∙ sym (last_law s (body + 1) n) in
    rw (ne_eqb (suc (suc n)) 0 (λ h. omega arith), ne_eqb (suc (suc n)) 1 (λ h. omega arith), g, k, e)

pub null_law : (s : List ℕ) (body n : ℕ) → eqb n 0 ≡ null_ok (octets_from s body n)
unfolding octets_from
null_law s body zero = refl
null_law s body (suc n) = ne_eqb (suc n) 0 (λ h. omega arith)

-- ---- an object identifier

pub oid_none : (s : List ℕ) (body n : ℕ) → n ≡ 0 → oid_ok (octets_from s body n) ≡ false
unfolding octets_from
oid_none s body n e = rw e

pub oid_some : (s : List ℕ) (body n : ℕ) → (n ≡ 0 → ⊥) → oid_ok (octets_from s body n) ≡ arcs_ok true (octets_from s (body + 0) (n - 0))
unfolding octets_from
oid_some s body zero f = absurd (f refl)
oid_some s body (suc n) f = rw (add-zero, sub-zero)

-- b is the kth octet
module _ (s : List ℕ) (a n k : ℕ) (fresh : Bool) (b : ℕ) (h : k < n) (e : b ≡ octet_at s (a + k)) where
  arcs_next : arcs_ok fresh (octets_from s (a + k) (n - k)) ≡ (not (fresh && eqb b 128) && arcs_ok (ltb b 128) (octets_from s (a + (k + 1)) (n - (k + 1))))
  unfolding arcs_ok
  arcs_next = rw (octets_next s a n k h, e)

  pub arcs_bad : (fresh && eqb b 128) ≡ true → arcs_ok fresh (octets_from s (a + k) (n - k)) ≡ false
  arcs_bad f = cc arcs_next

  pub arcs_good : (fresh && eqb b 128) ≡ false → arcs_ok fresh (octets_from s (a + k) (n - k)) ≡ arcs_ok (ltb b 128) (octets_from s (a + (k + 1)) (n - (k + 1)))
  arcs_good f = cc arcs_next

pub arcs_done : (s : List ℕ) (a n k : ℕ) (fresh : Bool) → n ≤ k → arcs_ok fresh (octets_from s (a + k) (n - k)) ≡ fresh
unfolding arcs_ok
arcs_done s a n k fresh h = rw (octets_done s a n k h)

-- ---- the type's number

pub holds_rare : (n : ℕ) → (n ≡ 8) ⊎ ((n ≡ 11) ⊎ (n ≡ 29)) → holds_elements n ≡ true
holds_rare n (inl e) = rw e
holds_rare n (inr (inl e)) = rw e
holds_rare n (inr (inr e)) = rw e

pub holds_no : (n : ℕ) → (n ≡ 16 → ⊥) → (n ≡ 17 → ⊥) → ((n ≡ 8) ⊎ ((n ≡ 11) ⊎ (n ≡ 29)) → ⊥) → holds_elements n ≡ false
holds_no n f g h =
    rw (ne_eqb n 8 (λ e. h (inl e)), ne_eqb n 11 (λ e. h (inr (inl e))), ne_eqb n 16 f, ne_eqb n 17 g, ne_eqb n 29 (λ e. h (inr (inr e))))

pub number_integer : (n : ℕ) (c : List ℕ) → (n ≡ 2) ⊎ (n ≡ 10) → primitive_ok n c ≡ integer_ok c
unfolding primitive_ok
number_integer n c (inl e) = rw e
number_integer n c (inr e) = rw e

pub number_other : (n : ℕ) (c : List ℕ) → (n ≡ 1 → ⊥) → ((n ≡ 2) ⊎ (n ≡ 10) → ⊥) → (n ≡ 3 → ⊥) → (n ≡ 5 → ⊥) → (n ≡ 6 → ⊥)
    → primitive_ok n c ≡ not (holds_elements n)
unfolding primitive_ok
number_other n c f g h k l =
    rw (ne_eqb n 1 f, ne_eqb n 2 (λ e. g (inl e)), ne_eqb n 10 (λ e. g (inr e)), ne_eqb n 3 h, ne_eqb n 5 k, ne_eqb n 6 l)

-- ---- an element: `good` is whether its universal type's form and contents are kept

module _ (s : List ℕ) (h : Head) where
  pub element_universal : (good : Bool) (n : ℕ) → h.sound ≡ true → h.tag < 64 → n ≡ h.end - h.body
      → good ≡ universal_ok h.tag (octets_from s h.body n) → good ≡ element_ok s h
  unfolding element_ok
  element_universal good n i t e g = rw (i, lt-leb 64 h.tag t, g, e)

  pub element_other : h.sound ≡ true → 64 ≤ h.tag → true ≡ element_ok s h
  unfolding element_ok
  element_other i t = rw (i, le-leb 64 h.tag t)

  pub element_broken : h.sound ≡ false → false ≡ element_ok s h
  unfolding element_ok
  element_broken i = rw i
