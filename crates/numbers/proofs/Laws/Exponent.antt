-- Whether a number is odd, and a number against 2 ^ (8 c) less 1, which c octets of FF say.
--     odd_is, odd_none                    by the last octet
--     ones_all                            each octet is FF
--     max_short, max_even, max_long       by how many octets the number has
-- Assumes nothing.
use mathlib.Core.Path.{◌≡◌, refl, sym, ap, ◌∙◌}
use mathlib.Core.List.{List, [], ◌∷◌}
use mathlib.Core.Bool.{Bool, true, false, not, ◌&&◌}
use Prim.Native.Nat.{ℕ, zero, suc, ◌+◌, ◌-◌, ◌*◌, ◌%◌, ◌^◌, ◌≤◌, ◌<◌}
use native.Mathlib.Nat.{mul-le-mul_right, le_trans, add-zero}
use native.Mathlib.Omega.{arith}
use lib.Pow.{pow-add, pow_mono, pow_pos}
use lib.Dec.{ltb, eqb}
use borrow.Author.Tests.{lt-ltb, le-ltb, eqb-true, eqb-false}
use Rattle.std.specs.List.{list_all}
use Rattle.numbers.specs.Numbers.{number, is_odd}
use Rattle.numbers.specs.Workings.Leading.{lead_of, all_ones}
use Rattle.octets.specs.Octets.{Octets, octet_at, octets_from}
use Rattle.octets.specs.Numbers.{number_from}
use Rattle.numbers.proofs.Laws.Values.{pow_octet, value_top, value_below, number_top, number_below, number_none}
use Rattle.numbers.proofs.Laws.Leading.{leads}

parity : (s : List ℕ) (n i m : ℕ) → number_from m (octets_from s i (suc n)) % 2 ≡ octet_at s (i + n) % 2
unfolding octets_from number_from
parity s zero i m = rw (add-zero i) (omega arith)
parity s (suc n) i m =
    let e : i + 1 + n ≡ i + suc n = omega arith in
    parity s n (i + 1) (256 * m + octet_at s i) ∙ ap (λ (k : ℕ). octet_at s k % 2) e

pub odd_is : (s : List ℕ) (body end b : ℕ) → body < end → b ≡ octet_at s (end - 1) → eqb (b % 2) 1 ≡ is_odd (number s body end)
odd_is s body end b h e =
    let f : end - body ≡ suc (end - body - 1) = omega arith in
    let g : body + (end - body - 1) ≡ end - 1 = omega arith in
    rw (f, parity s (end - body - 1) body 0, g, e)

pub odd_none : (s : List ℕ) (body end : ℕ) → end ≤ body → false ≡ is_odd (number s body end)
odd_none s body end h = rw (number_none s body end h)

-- ---- a number against 2^256 - 1

pub ones_all : (bs : List ℕ) → list_all (λ b. eqb b 255) bs ≡ all_ones bs
unfolding all_ones
ones_all [] = refl
ones_all (b ∷ bs) = ap (λ r. eqb b 255 && r) (ones_all bs)

never : false ≡ true → ⊥
never e = let z : ◌≡◌ {A = ℕ} 0 1 = cc in omega arith

ones_number_from : (s : List ℕ) (n i : ℕ) → all_ones (octets_from s i n) ≡ true → number_from 0 (octets_from s i n) + 1 ≡ 2 ^ (8 * n)
unfolding all_ones octets_from number_from
ones_number_from s zero i e = refl
ones_number_from s (suc n) i e = go (ones_number_from s n (i + 1)) (eqb (octet_at s i) 255) refl e
  where
    go : (all_ones (octets_from s (i + 1) n) ≡ true → number_from 0 (octets_from s (i + 1) n) + 1 ≡ 2 ^ (8 * n)) → (t : Bool) → eqb (octet_at s i) 255 ≡ t
        → (eqb (octet_at s i) 255 && all_ones (octets_from s (i + 1) n)) ≡ true → number_from 0 (octets_from s i (suc n)) + 1 ≡ 2 ^ (8 * suc n)
    go f true q a =
        rw (value_top s i n, pow_octet n, eqb-true (octet_at s i) 255 q) (omega (arith, f (rw q at a)))
    go f false q a = absurd (never (rw q at a))

not_255 : (b : ℕ) → b < 256 → (b ≡ 255 → ⊥) → b + 1 ≤ 255
not_255 b h f = omega arith

-- where some octet is not 255
less_number_from : (s : List ℕ) → Octets s → (n i : ℕ) → all_ones (octets_from s i n) ≡ false → number_from 0 (octets_from s i n) + 1 < 2 ^ (8 * n)
unfolding all_ones octets_from number_from
less_number_from s h zero i e = absurd (never (sym e))
less_number_from s h (suc n) i e = go (less_number_from s h n (i + 1)) (eqb (octet_at s i) 255) refl e
  where
    go : (all_ones (octets_from s (i + 1) n) ≡ false → number_from 0 (octets_from s (i + 1) n) + 1 < 2 ^ (8 * n)) → (t : Bool) → eqb (octet_at s i) 255 ≡ t
        → (eqb (octet_at s i) 255 && all_ones (octets_from s (i + 1) n)) ≡ false → number_from 0 (octets_from s i (suc n)) + 1 < 2 ^ (8 * suc n)
    go f true q a =
        rw (value_top s i n, pow_octet n, eqb-true (octet_at s i) 255 q) (omega (arith, f (rw q at a)))
    go f false q a =
        rw (value_top s i n, pow_octet n)
        (omega (
          arith,
          value_below s h n (i + 1),
          pow_pos (8 * n),
          mul-le-mul_right (2 ^ (8 * n))
              (not_255 (octet_at s i) (h i) (eqb-false (octet_at s i) 255 q)),
        ))

under : (v a c : ℕ) → v < 2 ^ a → a + 1 ≤ c → v < 2 ^ c - 1
under v a c h l = omega (arith, pow_pos a, grown)
  where
    grown : 2 * 2 ^ a ≤ 2 ^ c
    grown = le_trans (omega (arith, pow-add 2 a 1)) (pow_mono l)

module _ (s : List ℕ) (body end p : ℕ) (h : Octets s) (e : p ≡ lead_of s body end) where
  pub max_short : (c : ℕ) → end - p < c → true ≡ ltb (number s body end) (2 ^ (8 * c) - 1)
  max_short c l =
      rw (← (leads s body end p e).same)
      (sym (lt-ltb (number s p end) (2 ^ (8 * c) - 1) (under (number s p end) (8 * (end - p)) (8 * c) (number_below s h p end) (omega arith))))

  pub max_even : (c : ℕ) (t : Bool) → end - p ≡ c → t ≡ all_ones (octets_from s p (end - p)) → not t ≡ ltb (number s body end) (2 ^ (8 * c) - 1)
  max_even c true l o =
      rw (← (leads s body end p e).same, ← l)
      (sym (le-ltb (number s p end) (2 ^ (8 * (end - p)) - 1) (omega (arith, ones_number_from s (end - p) p (sym o)))))
  max_even c false l o =
      rw (← (leads s body end p e).same, ← l)
      (sym (lt-ltb (number s p end) (2 ^ (8 * (end - p)) - 1) (omega (arith, less_number_from s h (end - p) p (sym o)))))

  pub max_long : (c : ℕ) → c < end - p → false ≡ ltb (number s body end) (2 ^ (8 * c) - 1)
  max_long c l =
      let i : p < end = omega arith in
      let m : 2 ^ (8 * c) ≤ 2 ^ (8 * (end - (p + 1))) = pow_mono (omega arith) in
      rw (← (leads s body end p e).same, number_top s p end i)
      (sym (le-ltb (octet_at s p * 2 ^ (8 * (end - (p + 1))) + number s (p + 1) end) (2 ^ (8 * c) - 1)
      (omega (arith, m, mul-le-mul_right (2 ^ (8 * (end - (p + 1)))) ((leads s body end p e).above i)))))
