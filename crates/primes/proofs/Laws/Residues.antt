-- Residues: a number modulo m, four octets at a time, and modulo a divisor of m.
--     product, step_parts, residue_below     the sums stay within 64 bits
--     start, more, done        the loop over the words
--     row                      what the tables have at each place
--     free_bad, free_good, free_done     the loop over the primes
-- Assumes nothing.
use mathlib.Core.Path.{◌≡◌, refl, sym, ap, ap₂, ◌∙◌}
use mathlib.Core.List.{List, [], ◌∷◌}
use mathlib.Core.Bool.{true, false, ◌&&◌}
use Prim.Native.Nat.{ℕ, zero, suc, ◌+◌, ◌-◌, ◌*◌, ◌/◌, ◌%◌, ◌^◌, ◌≤◌, ◌<◌, ◌∣◌, min}
use native.Mathlib.Nat.{mod-mod, add-mod, mod-add-div, div-add-mod', add-mul-mod_self_left, mod-mod_of_dvd, dvd_of_mod-eq-zero, mul-le-mul}
use native.Mathlib.Nat.{lt_of_lt_of_le, add-zero, mod-lt, le_of_suc-le-suc, not-suc-le-zero}
use native.Mathlib.Numerals.{add-one}
use native.Mathlib.Omega.{arith}
use lib.ListN.{length, get_or, drop, drop_of_length-le}
use lib.Seq.{drop-cons}
use lib.Pow.{pow_mono}
use lib.Dec.{ltb, leb, eqb}
use borrow.Author.Tests.{eq-eqb, ne_eqb, eqb-true, ltb-true, leb-true}
use Rattle.primes.specs.Primes.{free_of}
use Rattle.primes.specs.Workings.Rows.{rows_ok, word_at, step_of}
use Rattle.octets.specs.Octets.{Octets, octet_at, octets_from}
use Rattle.octets.proofs.Laws.Tests.{and_l, and_r}
use Rattle.octets.specs.Numbers.{number_from}
use Rattle.numbers.specs.Numbers.{number}
use Rattle.numbers.proofs.Laws.Values.{octets_none, number_first, number_below}

-- ---- sums within 64 bits

pub product : (x y : ℕ) → x < 2 ^ 32 → y < 2 ^ 31 → x * y ≤ 9223372030412324865
product x y h l = mul-le-mul {n₂ = 4294967295} {m₂ = 2147483647} (omega arith) (omega arith)

pub step_parts : (r a b : ℕ) → r < 2 ^ 64 → a < 2 ^ 31 → b < 2 ^ 31
    → (r / 2 ^ 32 * b ≤ 9223372030412324865) × (r % 2 ^ 32 * a ≤ 9223372030412324865)
step_parts r a b h l k = (product (r / 2 ^ 32) b (omega arith) k, product (r % 2 ^ 32) a (omega arith) l)

-- a residue of m is below 2^31
pub residue_below : (n m : ℕ) → 0 < m → m ≤ 2 ^ 31 → n % m < 2 ^ 31
residue_below n m h l = lt_of_lt_of_le (mod-lt n h) l

-- ---- two numbers that have the same residue

mul_mod : (k a m : ℕ) → k * (a % m) % m ≡ k * a % m
mul_mod k a m =
    let e : a % m + m * (a / m) ≡ a = mod-add-div a m in
    let f : k * a ≡ k * (a % m) + m * (k * (a / m)) = ap (λ (x : ℕ). k * x) (sym e) ∙ spread k (a % m) m (a / m) in
    sym (ap (λ (x : ℕ). x % m) f ∙ add-mul-mod_self_left (k * (a % m)) m (k * (a / m)))
  where
    spread : (k x m q : ℕ) → k * (x + m * q) ≡ k * x + m * (k * q)
    spread k x m q = omega arith

same_mul : (k a b m : ℕ) → a % m ≡ b % m → k * a % m ≡ k * b % m
same_mul k a b m e = sym (mul_mod k a m) ∙ ap (λ (x : ℕ). k * x % m) e ∙ mul_mod k b m

same_add : (a b c d m : ℕ) → a % m ≡ b % m → c % m ≡ d % m → (a + c) % m ≡ (b + d) % m
same_add a b c d m e f = add-mod a c m ∙ ap₂ (λ (x y : ℕ). (x + y) % m) e f ∙ sym (add-mod b d m)

same_number_from : (bs : List ℕ) (a b m : ℕ) → a % m ≡ b % m → number_from a bs % m ≡ number_from b bs % m
unfolding number_from
same_number_from [] a b m e = e
same_number_from (x ∷ bs) a b m e = same_number_from bs (256 * a + x) (256 * b + x) m (same_add (256 * a) (256 * b) x x m (same_mul 256 a b m e) refl)

-- the step, at any base
same_step : (B r w m : ℕ) → (r / B * (B % m * (B % m) % m) + r % B * (B % m) + w) % m ≡ (B * r + w) % m
same_step B r w m =
    let a = B % m in
    let ha : a % m ≡ B % m = mod-mod B m in
    let hb : a * a % m % m ≡ B * B % m =
    mod-mod (a * a) m ∙ same_mul a a B m ha ∙ ap (λ (x : ℕ). x % m) (swap a B) ∙ same_mul B a B m ha in
    same_add (r / B * (a * a % m) + r % B * a) (r / B * (B * B) + r % B * B) w w m
    (same_add (r / B * (a * a % m)) (r / B * (B * B)) (r % B * a) (r % B * B) m (same_mul (r / B) (a * a % m) (B * B) m hb) (same_mul (r % B) a B m ha))
    refl
    ∙ ap (λ (x : ℕ). (x + w) % m) (spread (r / B) (r % B) B ∙ ap (λ (x : ℕ). B * x) (div-add-mod' r B))
  where
    swap : (a b : ℕ) → a * b ≡ b * a
    swap a b = omega arith

    spread : (h l B : ℕ) → h * (B * B) + l * B ≡ B * (h * B + l)
    spread h l B = omega arith

-- ---- four octets

next_at : (s : List ℕ) (n i j end : ℕ) → i < end → i + 1 ≡ j
    → number_from n (octets_from s i (end - i)) ≡ number_from (256 * n + octet_at s i) (octets_from s j (end - j))
next_at s n i j end h e =
    number_first s n i end h ∙ ap (λ (k : ℕ). number_from (256 * n + octet_at s i) (octets_from s k (end - k))) e

word_number_from : (s : List ℕ) (n i end : ℕ) → i + 4 ≤ end
    → number_from n (octets_from s i (end - i)) ≡ number_from (2 ^ 32 * n + word_at s i) (octets_from s (i + 4) (end - (i + 4)))
word_number_from s n i end h =
    let x₁ = 256 * n + octet_at s i in
    let x₂ = 256 * x₁ + octet_at s (i + 1) in
    let x₃ = 256 * x₂ + octet_at s (i + 2) in
    next_at s n i (i + 1) end (omega arith) refl
    ∙ next_at s x₁ (i + 1) (i + 2) end (omega arith) (omega arith)
    ∙ next_at s x₂ (i + 2) (i + 3) end (omega arith) (omega arith)
    ∙ next_at s x₃ (i + 3) (i + 4) end (omega arith) (omega arith)
    ∙ ap (λ (x : ℕ). number_from x (octets_from s (i + 4) (end - (i + 4)))) (gather n (octet_at s i) (octet_at s (i + 1)) (octet_at s (i + 2)) (octet_at s (i + 3)))
  where
    gather : (n a b c d : ℕ) → 256 * (256 * (256 * (256 * n + a) + b) + c) + d ≡ 2 ^ 32 * n + (256 * (256 * (256 * a + b) + c) + d)
    gather n a b c d = omega arith

-- ---- the loop over the words

value_split : (s : List ℕ) (a i b n : ℕ) → number_from n (octets_from s i (a + b)) ≡ number_from (number_from n (octets_from s i a)) (octets_from s (i + a) b)
unfolding octets_from number_from
value_split s zero i b n =
    let e : 0 + b ≡ b = omega arith in rw (e, add-zero i)
value_split s (suc a) i b n =
    let e : suc a + b ≡ suc (a + b) = omega arith in
    let f : i + 1 + a ≡ i + suc a = omega arith in
    rw (e, ← f) (value_split s a (i + 1) b (256 * n + octet_at s i))

-- the first octets, so many that fours are left
pub start : (s : List ℕ) (body end i r m : ℕ) → Octets s → i ≡ body + (end - body) % 4 → r ≡ min (number s body i) (2 ^ 32)
    → (number s body end % m ≡ number_from r (octets_from s i (end - i)) % m) × ((end - i) % 4 ≡ 0)
start s body end i r m h e f =
    let a = (end - body) % 4 in
    let ha : i - body ≡ a = omega arith in
    let hb : end - body ≡ a + (end - i) = omega arith in
    let small : number s body i < 2 ^ 24 = lt_of_lt_of_le (number_below s h body i) (pow_mono {j = 24} (omega arith)) in
    let g : r ≡ number s body i = f ∙ least (number s body i) small in (
      ap (λ (k : ℕ). number_from 0 (octets_from s body k) % m) hb
          ∙ ap (λ (x : ℕ). x % m) (value_split s a body (end - i) 0)
          ∙ ap₂ (λ (x j : ℕ). number_from x (octets_from s j (end - i)) % m) (ap (λ (k : ℕ). number_from 0 (octets_from s body k)) (sym ha) ∙ sym g) (sym e),
      omega arith,
    )
  where
    least : (v : ℕ) → v < 2 ^ 24 → min v (2 ^ 32) ≡ v
    least v l = omega arith

pub more : (s : List ℕ) (i end r m w x : ℕ) → i < end → (end - i) % 4 ≡ 0 → w ≡ word_at s i
    → x ≡ step_of r (2 ^ 32 % m) (2 ^ 32 % m * (2 ^ 32 % m) % m) w
    → (number_from r (octets_from s i (end - i)) % m ≡ number_from x (octets_from s (i + 4) (end - (i + 4))) % m) × ((end - (i + 4)) % 4 ≡ 0)
more s i end r m w x h q e f = (
  ap (λ (y : ℕ). y % m) (word_number_from s r i end (omega arith))
      ∙ same_number_from (octets_from s (i + 4) (end - (i + 4))) (2 ^ 32 * r + word_at s i) x m
      (sym (ap (λ (y : ℕ). y % m) (f ∙ ap (λ (y : ℕ). step_of r (2 ^ 32 % m) (2 ^ 32 % m * (2 ^ 32 % m) % m) y) e) ∙ same_step (2 ^ 32) r (word_at s i) m)),
  omega arith,
)

pub done : (s : List ℕ) (i end r m : ℕ) → end ≤ i → number_from r (octets_from s i (end - i)) % m ≡ r % m
unfolding number_from
done s i end r m h = rw (octets_none s i end h)

-- ---- the tables

pub record Row (p m : ℕ) : Type 0 where
  pub some : 0 < p
  pub least : 0 < m
  pub most : m ≤ 2 ^ 31
  pub divides : p ∣ m

never : false ≡ true → ⊥
never e = let z : ◌≡◌ {A = ℕ} 0 1 = cc in omega arith

row_of : (p m : ℕ) → (ltb 0 p && (ltb 0 m && (leb m (2 ^ 31) && eqb (m % p) 0))) ≡ true → Row p m
row_of p m t =
    let x = leb m (2 ^ 31) && eqb (m % p) 0 in
    let u = and_r (ltb 0 p) (ltb 0 m && x) t in
    let v = and_r (ltb 0 m) x u in
    record {
      some = ltb-true 0 p (and_l (ltb 0 p) (ltb 0 m && x) t);
      least = ltb-true 0 m (and_l (ltb 0 m) x u);
      most = leb-true m (2 ^ 31) (and_l (leb m (2 ^ 31)) (eqb (m % p) 0) v);
      divides = dvd_of_mod-eq-zero p (eqb-true (m % p) 0 (and_r (leb m (2 ^ 31)) (eqb (m % p) 0) v));
    }

pub row : (ps ms : List ℕ) → rows_ok ps ms ≡ true → (k : ℕ) → k < length ps → (k < length ms) × Row (get_or ps k 0) (get_or ms k 0)
unfolding rows_ok
row [] ms t k h = absurd (not-suc-le-zero h)
row (p ∷ ps) [] t k h = absurd (never t)
row (p ∷ ps) (m ∷ ms) t zero h =
    (omega arith, row_of p m (and_l (ltb 0 p && (ltb 0 m && (leb m (2 ^ 31) && eqb (m % p) 0))) (rows_ok ps ms) t))
row (p ∷ ps) (m ∷ ms) t (suc k) h =
    let r = row ps ms (and_r (ltb 0 p && (ltb 0 m && (leb m (2 ^ 31) && eqb (m % p) 0))) (rows_ok ps ms) t) k (le_of_suc-le-suc h) in
    let l = r.0 in (omega arith, r.1)

-- ---- the loop over the primes

-- r is the number modulo the product beside the kth prime
module _ (ps ms : List ℕ) (t : rows_ok ps ms ≡ true) (k v r : ℕ) (h : k < length ps) (e : r ≡ v % get_or ms k 0) where
  down : r % get_or ps k 0 ≡ v % get_or ps k 0
  down = ap (λ (x : ℕ). x % get_or ps k 0) e ∙ mod-mod_of_dvd (get_or ps k 0) v (row ps ms t k h).1.divides

  pub free_bad : r % get_or ps k 0 ≡ 0 → free_of (drop k ps) v ≡ false
  unfolding free_of
  free_bad z = rw (drop-cons ps k 0 h, ← down, eq-eqb (r % get_or ps k 0) 0 z)

  pub free_good : (r % get_or ps k 0 ≡ 0 → ⊥) → free_of (drop k ps) v ≡ free_of (drop (k + 1) ps) v
  unfolding free_of
  free_good z = rw (drop-cons ps k 0 h, ← down, ne_eqb (r % get_or ps k 0) 0 z, add-one k)

pub free_done : (ps : List ℕ) (k v : ℕ) → length ps ≤ k → free_of (drop k ps) v ≡ true
unfolding free_of
free_done ps k v h = rw (drop_of_length-le ps h)
