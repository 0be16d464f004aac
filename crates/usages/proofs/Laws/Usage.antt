-- The bits of a named BIT STRING, octet by octet.
--     first_bit                              one of the first eight bits
--     octet_bits                             an octet has a bit that is set unless it is 0
--     first_bits                             the first octet's bits that may not be set, one by one
--     set_any                                some octet has a bit that is set
--     other_none, other_first, other_later   bits that may not be set: none; in the first octet; in those after it
-- Assumes nothing.
use mathlib.Core.Path.{◌≡◌, refl, sym, ap, ◌∙◌}
use mathlib.Core.List.{List, [], ◌∷◌}
use mathlib.Core.Bool.{Bool, true, false, cond, not, ◌&&◌, ◌||◌, or-true, or-false, or_assoc}
use Prim.Native.Nat.{ℕ, zero, suc, ◌+◌, ◌-◌, ◌*◌, ◌/◌, ◌%◌, ◌^◌, ◌≤◌, ◌<◌}
use native.Mathlib.Nat.{add-zero, zero-div, div-one}
use native.Mathlib.Omega.{arith}
use lib.ListN.{length}
use lib.Dec.{ltb, eqb}
use borrow.Author.Tests.{lt-ltb, le-ltb, ltb-true, ltb-false, ne_eqb, eqb-true, eqb-false}
use Rattle.std.specs.List.{list_any}
use Rattle.usages.specs.Usage.{bit_octets, bit_at, any_below, other_bit, other_bits, passing_below, bits_in}
use Rattle.usages.specs.Workings.Usage.{any_set, odd_alone}
use Rattle.octets.specs.Octets.{is_one_of}
use Rattle.octets.specs.Octets.{octet_at, octets_from}
use Rattle.octets.proofs.Laws.Finite.{all_below, all_below_lem, same, same_true}

-- ---- tests of numbers

any_split : (test : ℕ → Bool) (a n : ℕ) → any_below test (a + n) ≡ (any_below (λ k. test (a + k)) n || any_below test a)
unfolding any_below
any_split test a zero = ap (any_below test) (add-zero a)
any_split test a (suc n) =
    let e : a + suc n ≡ suc (a + n) = omega arith in
    ap (any_below test) e
    ∙ (ap (λ (t : Bool). test (a + n) || t) (any_split test a n)
    ∙ sym (or_assoc (test (a + n)) (any_below (λ k. test (a + k)) n) (any_below test a)))

any_same : (f g : ℕ → Bool) → ((k : ℕ) → f k ≡ g k) → (n : ℕ) → any_below f n ≡ any_below g n
unfolding any_below
any_same f g h zero = refl
any_same f g h (suc n) = rw (h n, any_same f g h n)

-- ---- bits by their numbers

bit_later : (b : ℕ) (bits : List ℕ) (k : ℕ) → bit_at (b ∷ bits) (8 + k) ≡ bit_at bits k
bit_later b bits k =
    let d : (8 + k) / 8 ≡ suc (k / 8) = omega arith in
    let m : (8 + k) % 8 ≡ k % 8 = omega arith in
    rw (d, m)

no_bit : (k : ℕ) → bit_at [] k ≡ false
no_bit k = rw (zero-div (2 ^ (7 - k % 8)))

-- ---- one octet

all_octets : all_below (λ b. same (not (eqb b 0)) (any_below (bit_at (b ∷ [])) 8)) 256 ≡ true
unfolding all_below same any_below
all_octets = refl

pub octet_bits : (b : ℕ) → b < 256 → not (eqb b 0) ≡ any_below (bit_at (b ∷ [])) 8
octet_bits b h =
    same_true (not (eqb b 0)) (any_below (bit_at (b ∷ [])) 8) (all_below_lem (λ b. same (not (eqb b 0)) (any_below (bit_at (b ∷ [])) 8)) 256 b
    all_octets h)

-- the numbers below n that pass a test
passing_one : (test : ℕ → Bool) (n k : ℕ) → is_one_of k (passing_below test n) ≡ (ltb k n && test k)
unfolding passing_below is_one_of
passing_one test zero k = rw (le-ltb k 0 (omega arith))
passing_one test (suc n) k = go (passing_one test n k) (eqb n k) refl (test n) refl
  where
    other : (k ≡ n → ⊥) → ltb k (suc n) ≡ ltb k n
    other d = below (ltb k n) refl
      where
        below : (b : Bool) → ltb k n ≡ b → ltb k (suc n) ≡ b
        below true t = let l = ltb-true k n t in lt-ltb k (suc n) (omega (arith, l))
        below false t = let l = ltb-false k n t in le-ltb k (suc n) (omega (arith, l, d))

    go : is_one_of k (passing_below test n) ≡ (ltb k n && test k) → (e : Bool) → eqb n k ≡ e → (t : Bool) → test n ≡ t
        → is_one_of k (cond t (n ∷ passing_below test n) (passing_below test n)) ≡ (ltb k (suc n) && test k)
    go ih true e true t =
        let q = sym (eqb-true n k e) in
        let l : k < suc n = omega (arith, q) in
        rw (e, lt-ltb k (suc n) l, ap test q, t)
    go ih true e false t =
        let q = sym (eqb-true n k e) in
        let l : k < suc n = omega (arith, q) in
        rw (lt-ltb k (suc n) l, ap test q, t) (ih ∙ rw (le-ltb k n (omega (arith, q))))
    go ih false e true t = rw (e, other (λ q. eqb-false n k e (sym q))) ih
    go ih false e false t = rw (other (λ q. eqb-false n k e (sym q))) ih

-- an octet's bits by their numbers
named_bit : (octet k : ℕ) → is_one_of k (bits_in octet) ≡ bit_at (octet ∷ []) k
unfolding bits_in
named_bit octet k = passing_one (bit_at (octet ∷ [])) 8 k ∙ go (ltb k 8) refl
  where
    go : (b : Bool) → ltb k 8 ≡ b → (b && bit_at (octet ∷ []) k) ≡ bit_at (octet ∷ []) k
    go true t = refl
    go false t =
        let l = ltb-false k 8 t in
        let e : 8 + (k - 8) ≡ k = omega (arith, l) in
        sym (ap (bit_at (octet ∷ [])) (sym e) ∙ (bit_later octet [] (k - 8) ∙ no_bit (k - 8)))

-- the same test by the octet
abbrev masked_bit : List ℕ → ℕ → ℕ → Bool
masked_bit bits allowed k = not (eqb k 0 || bit_at (allowed ∷ []) k) && bit_at bits k

masked_is : (bits : List ℕ) (allowed k : ℕ) → other_bit bits (bits_in allowed) k ≡ masked_bit bits allowed k
masked_is bits allowed k = rw (named_bit allowed k)

-- the bits by their weight, from 1 to 64; bit 0, of weight 128, may be set
masked_bits : (b allowed : ℕ)
    → (odd_alone b allowed || (odd_alone (b / 2) (allowed / 2) || (odd_alone (b / 4) (allowed / 4) ||
    (odd_alone (b / 8) (allowed / 8) || (odd_alone (b / 16) (allowed / 16) ||
    (odd_alone (b / 32) (allowed / 32) || odd_alone (b / 64) (allowed / 64))))))) ≡ any_below (masked_bit (b ∷ []) allowed) 8
unfolding any_below
masked_bits b allowed = rw (div-one b, div-one allowed, or-false (odd_alone (b / 64) (allowed / 64)))

pub first_bits : (b allowed : ℕ)
    → (odd_alone b allowed || (odd_alone (b / 2) (allowed / 2) || (odd_alone (b / 4) (allowed / 4) ||
    (odd_alone (b / 8) (allowed / 8) || (odd_alone (b / 16) (allowed / 16) ||
    (odd_alone (b / 32) (allowed / 32) || odd_alone (b / 64) (allowed / 64))))))) ≡ any_below (other_bit (b ∷ []) (bits_in allowed)) 8
first_bits b allowed =
    masked_bits b allowed ∙ sym (any_same (other_bit (b ∷ []) (bits_in allowed)) (masked_bit (b ∷ []) allowed) (masked_is (b ∷ []) allowed) 8)

-- ---- the octets after the first

bit_other : (b allowed : ℕ) (bits : List ℕ) (k : ℕ) → other_bit (b ∷ bits) (bits_in allowed) (8 + k) ≡ bit_at bits k
bit_other b allowed bits k = rw (named_bit allowed (8 + k), bit_later allowed [] k, no_bit k, bit_later b bits k, ne_eqb (8 + k) 0 (λ e. omega arith))

-- a test of the bits of b and of those after it, which of these says what g says
octet_next : (f g : ℕ → Bool) (b : ℕ) (bits : List ℕ) → ((k : ℕ) → f (8 + k) ≡ g k)
    → any_below f (8 * length (b ∷ bits)) ≡ (any_below g (8 * length bits) || any_below f 8)
octet_next f g b bits h =
    let e : 8 * length (b ∷ bits) ≡ 8 + 8 * length bits = omega arith in
    ap (any_below f) e
    ∙ (any_split f 8 (8 * length bits)
    ∙ ap (λ (t : Bool). t || any_below f 8) (any_same (λ k. f (8 + k)) g h (8 * length bits)))

set_next : (b : ℕ) (bits : List ℕ) → any_set (b ∷ bits) ≡ (any_set bits || any_below (bit_at (b ∷ [])) 8)
unfolding any_set any_below
set_next b bits = octet_next (bit_at (b ∷ bits)) (bit_at bits) b bits (bit_later b bits)

other_next : (b allowed : ℕ) (bits : List ℕ) → other_bits (b ∷ bits) (bits_in allowed)
    ≡ (any_set bits || any_below (other_bit (b ∷ []) (bits_in allowed)) 8)
unfolding other_bits any_set any_below
other_next b allowed bits = octet_next (other_bit (b ∷ bits) (bits_in allowed)) (bit_at bits) b bits (bit_other b allowed bits)

or_comm : (a b : Bool) → (a || b) ≡ (b || a)
or_comm true b = sym (or-true b)
or_comm false b = sym (or-false b)

pub set_any : (bs : List ℕ) → list_any (λ b. any_below (bit_at (b ∷ [])) 8) bs ≡ any_set bs
unfolding any_set any_below
set_any [] = refl
set_any (b ∷ bs) =
    ap (λ r. any_below (bit_at (b ∷ [])) 8 || r) (set_any bs)
    ∙ (or_comm (any_below (bit_at (b ∷ [])) 8) (any_set bs) ∙ sym (set_next b bs))

-- ---- the contents, n octets from body on: b is the one after the first

few_octets : (s : List ℕ) (body n : ℕ) → n < 2 → bit_octets (octets_from s body n) ≡ []
unfolding octets_from
few_octets s body zero h = refl
few_octets s body (suc zero) h = refl
few_octets s body (suc (suc n)) h = absurd (omega arith)

more_octets : (s : List ℕ) (body n : ℕ) → 2 ≤ n → bit_octets (octets_from s body n) ≡ octet_at s (body + 1) ∷ octets_from s (body + 2) (n - 2)
unfolding octets_from
more_octets s body zero h = absurd (omega arith)
more_octets s body (suc zero) h = absurd (omega arith)
more_octets s body (suc (suc n)) h =
    let e : body + 1 + 1 ≡ body + 2 = omega arith in
    let f : suc (suc n) - 2 ≡ n = omega arith in
    rw (e, f)

pub first_bit : (k : ℕ) → k < 8 → (s : List ℕ) (body n b : ℕ) → b ≡ octet_at s (body + 1)
    → (ltb 1 n && eqb (b / 2 ^ (7 - k) % 2) 1) ≡ bit_at (bit_octets (octets_from s body n)) k
unfolding octets_from
first_bit k h s body zero b e = sym (no_bit k)
first_bit k h s body (suc zero) b e = sym (no_bit k)
first_bit k h s body (suc (suc n)) b e =
    let q : k / 8 ≡ 0 = omega arith in
    let r : k % 8 ≡ k = omega arith in
    rw (lt-ltb 1 (suc (suc n)) (omega arith), e, q, r)

pub other_none : (s : List ℕ) (body n allowed : ℕ) → n < 2 → false ≡ other_bits (bit_octets (octets_from s body n)) (bits_in allowed)
unfolding other_bits any_below
other_none s body n allowed h = rw (few_octets s body n h)

module _ (s : List ℕ) (body n b allowed : ℕ) (first : Bool) (h : 2 ≤ n) (e : b ≡ octet_at s (body + 1))
    (f : first ≡ any_below (other_bit (b ∷ []) (bits_in allowed)) 8) where
  other_split : other_bits (bit_octets (octets_from s body n)) (bits_in allowed) ≡ (any_set (octets_from s (body + 2) (n - 2)) || first)
  other_split = rw (more_octets s body n h, ← e, f) (other_next b allowed (octets_from s (body + 2) (n - 2)))

  pub other_first : first ≡ true → true ≡ other_bits (bit_octets (octets_from s body n)) (bits_in allowed)
  other_first t = sym (other_split ∙ rw t (or-true (any_set (octets_from s (body + 2) (n - 2)))))

  pub other_later : (later : Bool) → first ≡ false → later ≡ any_set (octets_from s (body + 2) (n - 2))
      → later ≡ other_bits (bit_octets (octets_from s body n)) (bits_in allowed)
  other_later later t l = l ∙ sym (other_split ∙ rw t (or-false (any_set (octets_from s (body + 2) (n - 2)))))
