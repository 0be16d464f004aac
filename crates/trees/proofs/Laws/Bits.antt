-- BIT STRINGs, written and read.
--     bits_passes       what is written for bits passes the test that is made of contents
--     bits_written      octets that pass the test are what is written for the bits that they say
--     bits_reads        what is written for bits says them
--     bits_one          no two lists of bits have the same contents
--     bits_octets       what is written is octets
-- Assumes nothing.
use mathlib.Core.Path.{◌≡◌, refl, sym, ap, ◌∙◌}
use mathlib.Core.List.{List, [], ◌∷◌}
use mathlib.Core.Bool.{Bool, true, false}
use Prim.Native.Nat.{ℕ, zero, suc, ◌+◌, ◌-◌, ◌*◌, ◌%◌, ◌/◌, ◌^◌, ◌≤◌, ◌<◌}
use native.Mathlib.Nat.{zero-add, suc-mul, mul_assoc, mul_comm, pow-suc, div-one, mul-le-mul_right, eq_of_mul-eq-mul_right}
use native.Mathlib.Omega.{arith}
use lib.ListN.{length}
use lib.Pow.{pow_pos, low, split, shr-shr}
use lib.Dec.{ltb, eqb}
use borrow.Author.Tests.{lt-ltb, ltb-true, eq-eqb, eqb-true}
use Rattle.trees.specs.Values.{bit, packed, unused, bit_string_octets}
use Rattle.der.specs.Contents.{last_of, bits_ok}
use Rattle.octets.specs.Octets.{Octets}
use Rattle.octets.proofs.Laws.Tests.{and_l, and_r}
use Rattle.octets.proofs.Laws.Parts.{head_same, tail_same}
use Rattle.trees.proofs.Laws.Numbers.{octets_put}

bit_small : (b : Bool) → bit b ≤ 1
bit_small true = omega arith
bit_small false = omega arith

bit_one : (b c : Bool) → bit b ≡ bit c → b ≡ c
bit_one true true e = refl
bit_one true false e = absurd (omega arith)
bit_one false true e = absurd (omega arith)
bit_one false false e = refl

-- ---- the test

packed_some : (free n : ℕ) (bs : List Bool) → 1 ≤ length (packed free n bs)
unfolding packed
packed_some free n [] = omega arith
packed_some zero n (b ∷ bs) = omega arith
packed_some (suc free) n (b ∷ bs) = packed_some free (2 * n + bit b) bs

unused_small : (free : ℕ) (bs : List Bool) → free < 8 → unused free bs < 8
unfolding unused
unused_small free [] h = h
unused_small zero (b ∷ bs) h = unused_small 7 bs (omega arith)
unused_small (suc free) (b ∷ bs) h = unused_small free bs (omega arith)

packed_last : (free n o : ℕ) (bs : List Bool) → last_of o (packed free n bs) % 2 ^ unused free bs ≡ 0
unfolding packed unused
packed_last free n o [] = let e : n * 2 ^ free ≡ n * 2 ^ free + 0 = omega arith in ap (λ (m : ℕ). m % 2 ^ free) e ∙ low n free (pow_pos free)
packed_last zero n o (b ∷ bs) = packed_last 7 (bit b) n bs
packed_last (suc free) n o (b ∷ bs) = packed_last free (2 * n + bit b) o bs

test : (u : ℕ) (cs : List ℕ) → u < 8 → 1 ≤ length cs → last_of 0 cs % 2 ^ u ≡ 0 → bits_ok (u ∷ cs) ≡ true
test u [] h l e = absurd (omega arith)
test u (c ∷ cs) h l e = rw (lt-ltb u 8 h, eq-eqb (last_of c cs % 2 ^ u) 0 e)

pub bits_passes : (bs : List Bool) → bits_ok (bit_string_octets bs) ≡ true
unfolding bit_string_octets
bits_passes [] = refl
bits_passes (b ∷ bs) =
    test (unused 7 bs) (packed 7 (bit b) bs) (unused_small 7 bs (omega arith)) (packed_some 7 (bit b) bs) (packed_last 7 (bit b) 0 bs)

-- ---- one to one

-- eight bits an octet
packed_long : (free n : ℕ) (bs : List Bool) → 8 * length (packed free n bs) + free ≡ 8 + length bs + unused free bs
unfolding packed unused
packed_long free n [] = omega arith
packed_long zero n (b ∷ bs) = let h = packed_long 7 (bit b) bs in omega arith
packed_long (suc free) n (b ∷ bs) = let h = packed_long free (2 * n + bit b) bs in omega arith

packed_one : (bs cs : List Bool) → length bs ≡ length cs → (free n m : ℕ) → packed free n bs ≡ packed free m cs → (n ≡ m) × (bs ≡ cs)
unfolding packed
packed_one [] [] l free n m e = (eq_of_mul-eq-mul_right (2 ^ free) (pow_pos free) n m (head_same _ _ _ _ e), refl)
packed_one [] (c ∷ cs) l free n m e = absurd (omega arith)
packed_one (b ∷ bs) [] l free n m e = absurd (omega arith)
packed_one (b ∷ bs) (c ∷ cs) l zero n m e =
    let r = packed_one bs cs (omega arith) 7 (bit b) (bit c) (tail_same _ _ _ _ e) in
    (head_same _ _ _ _ e, λ i. bit_one b c r.0 i ∷ r.1 i)
packed_one (b ∷ bs) (c ∷ cs) l (suc free) n m e =
    let r = packed_one bs cs (omega arith) free (2 * n + bit b) (2 * m + bit c) e in
    let f = r.0 in
    let p = bit_small b in
    let q = bit_small c in
    let g : bit b ≡ bit c = omega arith in
    (omega arith, λ i. bit_one b c g i ∷ r.1 i)

pub bits_one : (bs cs : List Bool) → bit_string_octets bs ≡ bit_string_octets cs → bs ≡ cs
unfolding bit_string_octets
bits_one [] [] e = refl
bits_one [] (c ∷ cs) e =
    let h = packed_some 7 (bit c) cs in
    let f : 1 ≡ suc (length (packed 7 (bit c) cs)) = ap length e in
    absurd (omega arith)
bits_one (b ∷ bs) [] e =
    let h = packed_some 7 (bit b) bs in
    let f : suc (length (packed 7 (bit b) bs)) ≡ 1 = ap length e in
    absurd (omega arith)
bits_one (b ∷ bs) (c ∷ cs) e =
    let u : unused 7 bs ≡ unused 7 cs = head_same _ _ _ _ e in
    let p : packed 7 (bit b) bs ≡ packed 7 (bit c) cs = tail_same _ _ _ _ e in
    let n : length (packed 7 (bit b) bs) ≡ length (packed 7 (bit c) cs) = ap length p in
    let x = packed_long 7 (bit b) bs in
    let y = packed_long 7 (bit c) cs in
    let r = packed_one bs cs (omega arith) 7 (bit b) (bit c) p in
    λ i. bit_one b c r.0 i ∷ r.1 i

-- ---- octets

packed_octets : (free n : ℕ) (bs : List Bool) → suc n * 2 ^ free ≤ 256 → Octets (packed free n bs)
unfolding packed
packed_octets free n [] h =
    let e = suc-mul n (2 ^ free) in
    let p = pow_pos free in
    octets_put (n * 2 ^ free) [] (omega arith) (λ i. omega arith)
packed_octets zero n (b ∷ bs) h =
    let s = bit_small b in
    octets_put n (packed 7 (bit b) bs) (omega arith) (packed_octets 7 (bit b) bs (omega arith))
packed_octets (suc free) n (b ∷ bs) h =
    let s = bit_small b in
    let l : suc (2 * n + bit b) ≤ suc n * 2 = omega arith in
    let k : suc (2 * n + bit b) * 2 ^ free ≤ suc n * 2 * 2 ^ free = mul-le-mul_right (2 ^ free) l in
    let e : suc n * 2 * 2 ^ free ≡ suc n * 2 ^ suc free =
    mul_assoc (suc n) 2 (2 ^ free) ∙ ap (λ (m : ℕ). suc n * m) (mul_comm 2 (2 ^ free) ∙ sym (pow-suc 2 free)) in
    packed_octets free (2 * n + bit b) bs (omega arith)

pub bits_octets : (bs : List Bool) → Octets (bit_string_octets bs)
unfolding bit_string_octets
bits_octets [] = octets_put 0 [] (omega arith) (λ i. omega arith)
bits_octets (b ∷ bs) =
    let u = unused_small 7 bs (omega arith) in
    let s = bit_small b in
    octets_put (unused 7 bs) (packed 7 (bit b) bs) (omega arith) (packed_octets 7 (bit b) bs (omega arith))

-- ---- read, then written

-- from an octet's beginning
packed_next : (n : ℕ) (bs : List Bool) → 1 ≤ length bs → packed 0 n bs ≡ n ∷ packed 8 0 bs
unfolding packed
packed_next n [] h = absurd (omega arith)
packed_next n (b ∷ bs) h = let e : bit b ≡ 2 * 0 + bit b = omega arith in ap (λ (m : ℕ). n ∷ packed 7 m bs) e

unused_next : (bs : List Bool) → 1 ≤ length bs → unused 0 bs ≡ unused 8 bs
unfolding unused
unused_next [] h = absurd (omega arith)
unused_next (b ∷ bs) h = refl

begins : (bs : List Bool) → 1 ≤ length bs → bit_string_octets bs ≡ unused 8 bs ∷ packed 8 0 bs
unfolding bit_string_octets packed unused
begins [] h = absurd (omega arith)
begins (b ∷ bs) h = let e : bit b ≡ 2 * 0 + bit b = omega arith in ap (λ (m : ℕ). unused 7 bs ∷ packed 7 m bs) e

-- the last k bits of a number, and then those `after`
unfoldable pub down : ℕ → ℕ → List Bool → List Bool
down y zero after = after
down y (suc k) after = eqb (y / 2 ^ k % 2) 1 ∷ down y k after

down_long : (y k : ℕ) (after : List Bool) → length (down y k after) ≡ k + length after
unfolding down
down_long y zero after = omega arith
down_long y (suc k) after = let h = down_long y k after in omega arith

odd : (z : ℕ) → bit (eqb (z % 2) 1) ≡ z % 2
odd z = go (eqb (z % 2) 1) refl
  where
    go : (t : Bool) → eqb (z % 2) 1 ≡ t → bit t ≡ z % 2
    go true e = sym (eqb-true (z % 2) 1 e)
    go false e = let n : z % 2 ≡ 1 → ⊥ = λ f. absurd_of (sym e ∙ eq-eqb (z % 2) 1 f) in omega arith
      where
        absurd_of : ◌≡◌ {A = Bool} false true → ⊥
        absurd_of g = let n : ◌≡◌ {A = ℕ} 0 1 = cc in omega arith

halves : (y k : ℕ) → 2 * (y / 2 ^ suc k) + bit (eqb (y / 2 ^ k % 2) 1) ≡ y / 2 ^ k
halves y k =
    let o = odd (y / 2 ^ k) in
    let s : suc k ≡ k + 1 = omega arith in
    let e : y / 2 ^ suc k ≡ y / 2 ^ k / 2 = ap (λ (m : ℕ). y / 2 ^ m) s ∙ sym (shr-shr y k 1) in
    omega arith

packed_down : (u y k : ℕ) (after : List Bool) → packed (k + u) (y / 2 ^ k) (down y k after) ≡ packed u y after
unfolding packed down
packed_down u y zero after = λ i. packed (zero-add u i) (div-one y i) after
packed_down u y (suc k) after =
    let s : suc k + u ≡ suc (k + u) = omega arith in
    ap (λ (f : ℕ). packed f (y / 2 ^ suc k) (eqb (y / 2 ^ k % 2) 1 ∷ down y k after)) s
    ∙ (ap (λ (n : ℕ). packed (k + u) n (down y k after)) (halves y k) ∙ packed_down u y k after)

unused_down : (u y k : ℕ) (after : List Bool) → unused (k + u) (down y k after) ≡ unused u after
unfolding unused down
unused_down u y zero after = λ i. unused (zero-add u i) after
unused_down u y (suc k) after =
    let s : suc k + u ≡ suc (k + u) = omega arith in
    ap (λ (f : ℕ). unused f (eqb (y / 2 ^ k % 2) 1 ∷ down y k after)) s ∙ unused_down u y k after

-- the bits that the octets from x on say, but for u unused; and those that contents say
unfoldable pub bits_from : ℕ → ℕ → List ℕ → List Bool
bits_from u x [] = down (x / 2 ^ u) (8 - u) []
bits_from u x (c ∷ cs) = down x 8 (bits_from u c cs)

unfoldable pub bits_of : List ℕ → List Bool
bits_of [] = []
bits_of (u ∷ []) = []
bits_of (u ∷ x ∷ cs) = bits_from u x cs

-- bits that fill octets but for u unused
record Unpacked (u : ℕ) (cs : List ℕ) (bs : List Bool) : Type 0 where
  some : 1 ≤ length bs
  octets : packed 8 0 bs ≡ cs
  left : unused 8 bs ≡ u

unpack_last : (u x : ℕ) → u < 8 → x < 256 → x % 2 ^ u ≡ 0 → Unpacked u (x ∷ []) (down (x / 2 ^ u) (8 - u) [])
unfolding packed unused
unpack_last u x h l e =
    let k : 8 ≡ 8 - u + u = omega arith in
    let m : u + (8 - u) ≡ 8 = omega arith in
    let z : x / 256 ≡ 0 = omega arith in
    let t : x / 2 ^ u / 2 ^ (8 - u) ≡ 0 = shr-shr x u (8 - u) ∙ (ap (λ (j : ℕ). x / 2 ^ j) m ∙ z) in
    let d = down_long (x / 2 ^ u) (8 - u) [] in
    let s = split x u in
    let w : x / 2 ^ u * 2 ^ u ≡ x = omega arith in
    record {
      some = omega arith;
      octets =
          (λ i. packed (k i) (sym t i) (down (x / 2 ^ u) (8 - u) []))
          ∙ (packed_down u (x / 2 ^ u) (8 - u) [] ∙ ap (λ (j : ℕ). j ∷ []) w);
      left = ap (λ (f : ℕ). unused f (down (x / 2 ^ u) (8 - u) [])) k ∙ unused_down u (x / 2 ^ u) (8 - u) [];
    }

unpack_more : (u x : ℕ) (cs : List ℕ) (bs : List Bool) → x < 256 → Unpacked u cs bs → Unpacked u (x ∷ cs) (down x 8 bs)
unpack_more u x cs bs l r =
    let t : 0 ≡ x / 2 ^ 8 = omega arith in
    let d = down_long x 8 bs in
    record {
      some = omega arith;
      octets =
          ap (λ (n : ℕ). packed 8 n (down x 8 bs)) t
          ∙ (packed_down 0 x 8 bs ∙ (packed_next x bs r.some ∙ ap (λ (l : List ℕ). x ∷ l) r.octets));
      left = unused_down 0 x 8 bs ∙ (unused_next bs r.some ∙ r.left);
    }

unpack : (u x : ℕ) (cs : List ℕ) → u < 8 → Octets (x ∷ cs) → last_of x cs % 2 ^ u ≡ 0 → Unpacked u (x ∷ cs) (bits_from u x cs)
unfolding bits_from
unpack u x [] h o e = unpack_last u x h (o 0) e
unpack u x (c ∷ cs) h o e = unpack_more u x (c ∷ cs) (bits_from u c cs) (o 0) (unpack u c cs h (λ i. o (suc i)) e)

pub bits_written : (c : List ℕ) → Octets c → bits_ok c ≡ true → bit_string_octets (bits_of c) ≡ c
unfolding bit_string_octets bits_of
bits_written [] o e = absurd (let k : ◌≡◌ {A = ℕ} 0 1 = cc in omega arith)
bits_written (u ∷ []) o e = ap (λ (n : ℕ). n ∷ []) (sym (eqb-true u 0 e))
bits_written (u ∷ x ∷ cs) o e =
    let h = ltb-true u 8 (and_l (ltb u 8) (eqb (last_of x cs % 2 ^ u) 0) e) in
    let z = eqb-true (last_of x cs % 2 ^ u) 0 (and_r (ltb u 8) (eqb (last_of x cs % 2 ^ u) 0) e) in
    let r = unpack u x cs h (λ i. o (suc i)) z in
    begins (bits_from u x cs) r.some ∙ λ i. r.left i ∷ r.octets i

pub bits_reads : (bs : List Bool) → bits_of (bit_string_octets bs) ≡ bs
bits_reads bs = bits_one (bits_of (bit_string_octets bs)) bs (bits_written (bit_string_octets bs) (bits_octets bs) (bits_passes bs))
