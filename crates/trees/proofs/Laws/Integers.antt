-- INTEGERs, written and read.
--     integer_reads       what is written for a number says it
--     integer_passes      it passes the test that is made of contents
--     integer_written     octets that pass the test are what is written for the number that they say
--     integer_octets_lem      what is written is octets
--     integer_fewest      no fewer octets say the number
-- Assumes nothing.
use mathlib.Core.Path.{◌≡◌, refl, sym, ap, ◌∙◌}
use mathlib.Core.List.{List, [], ◌∷◌, map}
use mathlib.Core.Bool.{Bool, true, false, not, ◌&&◌, ◌||◌}
use Prim.Native.Nat.{ℕ, suc, ◌+◌, ◌-◌, ◌*◌, ◌^◌, ◌≤◌, ◌<◌}
use native.Mathlib.Nat.{pow-suc, mul_assoc, mul_comm, one-mul}
use native.Mathlib.Omega.{arith}
use lib.ListN.{length}
use lib.Dec.{ltb, leb, eqb}
use lib.IntN.{ℤ, pos, negsuc, sub_ℕ}
use borrow.Author.Tests.{lt-ltb, le-ltb, ltb-true, ltb-false, le-leb, lt-leb, leb-true, leb-false, eq-eqb, ne_eqb, eqb-true}
use Rattle.trees.specs.Numbers.{signed_octets}
use Rattle.trees.specs.Values.{inverted, integer_octets}
use Rattle.der.specs.Contents.{integer_ok}
use Rattle.der.specs.Integers.{integer_of}
use Rattle.octets.specs.Octets.{Octets}
use Rattle.octets.specs.Numbers.{number_from}
use Rattle.trees.proofs.Laws.Numbers.{octets_put, Least, by_reads, by_least, by_octets, by_written}

-- ---- every bit the other way round

invert_octets : (bs : List ℕ) → Octets bs → Octets (map inverted bs)
invert_octets [] o = λ i. omega arith
invert_octets (b ∷ bs) o = octets_put (255 - b) (map inverted bs) (omega arith) (invert_octets bs (λ i. o (suc i)))

invert_twice : (bs : List ℕ) → Octets bs → map inverted (map inverted bs) ≡ bs
invert_twice [] o = refl
invert_twice (b ∷ bs) o =
    let h = o 0 in
    let e : 255 - (255 - b) ≡ b = omega arith in
    λ i. e i ∷ invert_twice bs (λ j. o (suc j)) i

-- octets and the same inverted say together one less than all that there are
invert_sum : (bs : List ℕ) → Octets bs → (m n : ℕ) → suc (number_from m (map inverted bs) + number_from n bs) ≡ suc (m + n) * 256 ^ length bs
unfolding number_from
invert_sum [] o m n = omega arith
invert_sum (b ∷ bs) o m n =
    let h = o 0 in
    let e : suc (256 * m + (255 - b) + (256 * n + b)) ≡ suc (m + n) * 256 = omega arith in
    let p : suc (m + n) * 256 * 256 ^ length bs ≡ suc (m + n) * (256 * 256 ^ length bs) = mul_assoc (suc (m + n)) 256 (256 ^ length bs) in
    let q : 256 * 256 ^ length bs ≡ 256 ^ suc (length bs) = mul_comm 256 (256 ^ length bs) ∙ sym (pow-suc 256 (length bs)) in
    invert_sum bs (λ i. o (suc i)) (256 * m + (255 - b)) (256 * n + b)
    ∙ (ap (λ (k : ℕ). k * 256 ^ length bs) e ∙ (p ∙ ap (λ (k : ℕ). suc (m + n) * k) q))

invert_all : (bs : List ℕ) → Octets bs → suc (number_from 0 (map inverted bs) + number_from 0 bs) ≡ 256 ^ length bs
invert_all bs o = invert_sum bs o 0 0 ∙ one-mul (256 ^ length bs)

-- ---- the number by the first octet

said_low : (b : ℕ) (bs : List ℕ) → b < 128 → integer_of (b ∷ bs) ≡ pos (number_from 0 (b ∷ bs))
unfolding integer_of
said_low b bs h = rw (lt-ltb b 128 h)

said_high : (b : ℕ) (bs : List ℕ) → 128 ≤ b → integer_of (b ∷ bs) ≡ sub_ℕ (number_from 0 (b ∷ bs)) (256 ^ length (b ∷ bs))
unfolding integer_of
said_high b bs h = rw (le-ltb b 128 h)

-- v less m, where v and n are together one less than m
below : (v m n : ℕ) → suc (v + n) ≡ m → sub_ℕ v m ≡ negsuc n
below v m n e =
    let f : m - suc v ≡ n = omega arith in
    let l : v < m = omega arith in
    rw (lt-ltb v m l) (ap negsuc f)

said_negative : (b : ℕ) (bs : List ℕ) → Octets (b ∷ bs) → 128 ≤ b → integer_of (b ∷ bs) ≡ negsuc (number_from 0 (map inverted (b ∷ bs)))
said_negative b bs o h =
    let s : suc (number_from 0 (b ∷ bs) + number_from 0 (map inverted (b ∷ bs))) ≡ 256 ^ length (b ∷ bs) =
    (let k = invert_all (b ∷ bs) o in omega arith) in
    said_high b bs h ∙ below (number_from 0 (b ∷ bs)) (256 ^ length (b ∷ bs)) (number_from 0 (map inverted (b ∷ bs))) s

-- ---- written, then read

abbrev Signed : List ℕ → Type 0
Signed bs = Least 128 bs

pub signed_least : (n : ℕ) → Signed (signed_octets n)
signed_least n = by_least 128 (omega arith) (omega arith) n

signed_octets_lem : (n : ℕ) → Octets (signed_octets n)
signed_octets_lem n = by_octets 128 (omega arith) (omega arith) n

pub integer_octets_lem : (i : ℤ) → Octets (integer_octets i)
unfolding integer_octets
integer_octets_lem (pos n) = signed_octets_lem n
integer_octets_lem (negsuc n) = invert_octets (signed_octets n) (signed_octets_lem n)

read_pos : (bs : List ℕ) → Signed bs → integer_of bs ≡ pos (number_from 0 bs)
read_pos [] l = absurd l
read_pos (b ∷ []) l = said_low b [] l
read_pos (b ∷ c ∷ bs) l = said_low b (c ∷ bs) l.0

read_neg : (bs : List ℕ) → Octets bs → Signed bs → integer_of (map inverted bs) ≡ negsuc (number_from 0 bs)
read_neg [] o l = absurd l
read_neg (b ∷ bs) o l =
    said_negative (255 - b) (map inverted bs) (invert_octets (b ∷ bs) o) (go bs l)
    ∙ ap (λ (c : List ℕ). negsuc (number_from 0 c)) (invert_twice (b ∷ bs) o)
  where
    go : (bs : List ℕ) → Signed (b ∷ bs) → 128 ≤ 255 - b
    go [] l = omega arith
    go (c ∷ bs) l = let k = l.0 in omega arith

pub integer_reads : (i : ℤ) → integer_of (integer_octets i) ≡ i
unfolding integer_octets
integer_reads (pos n) = read_pos (signed_octets n) (signed_least n) ∙ ap pos (by_reads 128 (omega arith) (omega arith) n)
integer_reads (negsuc n) =
    read_neg (signed_octets n) (signed_octets_lem n) (signed_least n) ∙ ap negsuc (by_reads 128 (omega arith) (omega arith) n)

-- ---- the test

pass_pos : (bs : List ℕ) → Signed bs → integer_ok bs ≡ true
pass_pos [] l = absurd l
pass_pos (a ∷ []) l = refl
pass_pos (a ∷ b ∷ bs) l = go (eqb a 0) refl
  where
    go : (t : Bool) → eqb a 0 ≡ t → not (t && ltb b 128 || eqb a 255 && leb 128 b) ≡ true
    go true e =
        let z = eqb-true a 0 e in
        let k = l.1 in
        rw (le-ltb b 128 (let p : 128 ≤ b = omega arith in p), ne_eqb a 255 (λ f. omega arith))
    go false e = let k = l.0 in rw (ne_eqb a 255 (λ f. omega arith))

pass_neg : (bs : List ℕ) → Octets bs → Signed bs → integer_ok (map inverted bs) ≡ true
pass_neg [] o l = absurd l
pass_neg (a ∷ []) o l = refl
pass_neg (a ∷ b ∷ bs) o l = go (eqb (255 - a) 255) refl
  where
    go : (t : Bool) → eqb (255 - a) 255 ≡ t → not (eqb (255 - a) 0 && ltb (255 - b) 128 || t && leb 128 (255 - b)) ≡ true
    go true e =
        let z = eqb-true (255 - a) 255 e in
        let k = l.1 in
        let j = l.0 in
        rw (lt-leb 128 (255 - b) (let p : 255 - b < 128 = omega arith in p), ne_eqb (255 - a) 0 (λ f. omega arith))
    go false e = let k = l.0 in rw (ne_eqb (255 - a) 0 (λ f. omega arith))

pub integer_passes : (i : ℤ) → integer_ok (integer_octets i) ≡ true
unfolding integer_octets
integer_passes (pos n) = pass_pos (signed_octets n) (signed_least n)
integer_passes (negsuc n) = pass_neg (signed_octets n) (signed_octets_lem n) (signed_least n)

-- ---- read, then written

-- the two ways in which the test fails do not hold
fewest : (a b : ℕ) (bs : List ℕ) → integer_ok (a ∷ b ∷ bs) ≡ true → ((a ≡ 0) × (b < 128) → ⊥) × ((a ≡ 255) × (128 ≤ b) → ⊥)
fewest a b bs e = (
  (λ p. let k : ◌≡◌ {A = Bool} false true = rw (eq-eqb a 0 p.0, lt-ltb b 128 p.1) at e in let n : ◌≡◌ {A = ℕ} 0 1 = cc in omega arith),
  λ p.
      let z = p.0 in
      let k : ◌≡◌ {A = Bool} false true = rw (ne_eqb a 0 (λ f. omega arith), eq-eqb a 255 p.0, le-leb 128 b p.1) at e in
      let n : ◌≡◌ {A = ℕ} 0 1 = cc in
      omega arith,
)

least_low : (b : ℕ) (bs : List ℕ) → b < 128 → integer_ok (b ∷ bs) ≡ true → Signed (b ∷ bs)
least_low a [] h e = h
least_low a (b ∷ bs) h e = (h, go (ltb b 128) refl)
  where
    go : (t : Bool) → ltb b 128 ≡ t → 128 ≤ 256 * a + b
    go true f =
        let k = ltb-true b 128 f in
        let n : a ≡ 0 → ⊥ = λ z. (fewest a b bs e).0 (z, k) in
        omega arith
    go false f = let k = ltb-false b 128 f in omega arith

least_high : (b : ℕ) (bs : List ℕ) → b < 256 → 128 ≤ b → integer_ok (b ∷ bs) ≡ true → Signed (map inverted (b ∷ bs))
least_high a [] o h e = omega arith
least_high a (b ∷ bs) o h e = (omega arith, go (leb 128 b) refl)
  where
    go : (t : Bool) → leb 128 b ≡ t → 128 ≤ 256 * (255 - a) + (255 - b)
    go true f =
        let k = leb-true 128 b f in
        let n : a ≡ 255 → ⊥ = λ z. (fewest a b bs e).1 (z, k) in
        omega arith
    go false f = let k = leb-false 128 b f in omega arith

write_pos : (bs : List ℕ) → Octets bs → Signed bs → integer_octets (pos (number_from 0 bs)) ≡ bs
unfolding integer_octets
write_pos bs o l = by_written 128 (omega arith) (omega arith) bs o l

write_neg : (bs : List ℕ) → Octets bs → Signed (map inverted bs) → integer_octets (negsuc (number_from 0 (map inverted bs))) ≡ bs
unfolding integer_octets
write_neg bs o l =
    ap (map inverted) (by_written 128 (omega arith) (omega arith) (map inverted bs) (invert_octets bs o) l) ∙ invert_twice bs o

pub integer_written : (c : List ℕ) → Octets c → integer_ok c ≡ true → integer_octets (integer_of c) ≡ c
integer_written [] o e = absurd (let k : ◌≡◌ {A = ℕ} 0 1 = cc in omega arith)
integer_written (b ∷ bs) o e = go (ltb b 128) refl
  where
    go : (t : Bool) → ltb b 128 ≡ t → integer_octets (integer_of (b ∷ bs)) ≡ b ∷ bs
    go true f =
        let h = ltb-true b 128 f in
        ap integer_octets (said_low b bs h) ∙ write_pos (b ∷ bs) o (least_low b bs h e)
    go false f =
        let h = ltb-false b 128 f in
        ap integer_octets (said_negative b bs o h) ∙ write_neg (b ∷ bs) o (least_high b bs (o 0) h e)

-- ---- the fewest octets

-- where the test fails, the first octet adds nothing
spare_low : (b : ℕ) (bs : List ℕ) → b < 128 → integer_of (0 ∷ b ∷ bs) ≡ integer_of (b ∷ bs)
unfolding number_from
spare_low b bs h = said_low 0 (b ∷ bs) (omega arith) ∙ sym (said_low b bs h)

spare_high : (b : ℕ) (bs : List ℕ) → Octets (b ∷ bs) → 128 ≤ b → integer_of (255 ∷ b ∷ bs) ≡ integer_of (b ∷ bs)
unfolding number_from
spare_high b bs o h = said_negative 255 (b ∷ bs) (octets_put 255 (b ∷ bs) (omega arith) o) (omega arith) ∙ sym (said_negative b bs o h)

spare : (a b : ℕ) (bs : List ℕ) → Octets (b ∷ bs) → integer_ok (a ∷ b ∷ bs) ≡ false → integer_of (a ∷ b ∷ bs) ≡ integer_of (b ∷ bs)
spare a b bs o e = go (eqb a 0) refl (ltb b 128) refl (eqb a 255) refl (leb 128 b) refl e
  where
    no : ◌≡◌ {A = Bool} true false → ⊥
    no k = let n : ◌≡◌ {A = ℕ} 0 1 = cc in omega arith

    first : (n : ℕ) → a ≡ n → integer_of (a ∷ b ∷ bs) ≡ integer_of (n ∷ b ∷ bs)
    first n z = ap (λ (m : ℕ). integer_of (m ∷ b ∷ bs)) z

    go : (s : Bool) → eqb a 0 ≡ s → (t : Bool) → ltb b 128 ≡ t → (u : Bool) → eqb a 255 ≡ u → (v : Bool) → leb 128 b ≡ v
        → not (s && t || u && v) ≡ false → integer_of (a ∷ b ∷ bs) ≡ integer_of (b ∷ bs)
    go true p true q u r v w k = first 0 (eqb-true a 0 p) ∙ spare_low b bs (ltb-true b 128 q)
    go true p false q true r true w k = first 255 (eqb-true a 255 r) ∙ spare_high b bs o (leb-true 128 b w)
    go true p false q true r false w k = absurd (no k)
    go true p false q false r v w k = absurd (no k)
    go false p t q true r true w k = first 255 (eqb-true a 255 r) ∙ spare_high b bs o (leb-true 128 b w)
    go false p t q true r false w k = absurd (no k)
    go false p t q false r v w k = absurd (no k)

pub integer_fewest : (c : List ℕ) → Octets c → 1 ≤ length c → length (integer_octets (integer_of c)) ≤ length c
integer_fewest [] o l = absurd (omega arith)
integer_fewest (a ∷ []) o l = let e = ap length (integer_written (a ∷ []) o refl) in omega arith
integer_fewest (a ∷ b ∷ bs) o l = go (integer_ok (a ∷ b ∷ bs)) refl (integer_fewest (b ∷ bs) (λ i. o (suc i)) (omega arith))
  where
    go : (t : Bool) → integer_ok (a ∷ b ∷ bs) ≡ t → length (integer_octets (integer_of (b ∷ bs))) ≤ suc (length bs)
        → length (integer_octets (integer_of (a ∷ b ∷ bs))) ≤ suc (suc (length bs))
    go true e ih = let f = ap length (integer_written (a ∷ b ∷ bs) o e) in omega arith
    go false e ih = rw (spare a b bs (λ i. o (suc i)) e) (omega arith)
