-- A number against a power of two.
--     below_short, below_even, below_long     by its octets
--     bits_some, bits_none                    how many bits it has
--     not_below                               a number that is not below another
-- Assumes nothing.
use mathlib.Core.Path.{◌≡◌, refl, sym, ap, subst, ◌∙◌}
use mathlib.Core.List.{List}
use mathlib.Core.Bool.{Bool, true, false, not, ◌&&◌}
use Prim.Native.Nat.{ℕ, ◌+◌, ◌-◌, ◌*◌, ◌/◌, ◌%◌, ◌^◌, ◌≤◌, ◌<◌}
use native.Mathlib.Nat.{mul-le-mul_right, lt_of_lt_of_le}
use native.Mathlib.Omega.{arith}
use lib.Pow.{pow-add, pow_mono}
use lib.Dec.{ltb, leb}
use borrow.Author.Tests.{lt-ltb, le-ltb, le-leb, lt-leb, ltb-true, ltb-false}
use Rattle.numbers.specs.Numbers.{number, has_bits}
use Rattle.numbers.specs.Workings.Leading.{lead_of}
use Rattle.octets.specs.Octets.{Octets, octet_at}
use Rattle.numbers.proofs.Laws.Values.{ltb_same, number_top, number_below}
use Rattle.numbers.proofs.Laws.Leading.{leads}

-- the number has end - p octets, from the first that is not 0 on
module _ (s : List ℕ) (body end p k : ℕ) (h : Octets s) (e : p ≡ lead_of s body end) where
  pub below_short : end - p ≤ k / 8 → true ≡ ltb (number s body end) (2 ^ k)
  below_short l =
      rw (← (leads s body end p e).same)
      (sym (lt-ltb (number s p end) (2 ^ k) (lt_of_lt_of_le (number_below s h p end) (pow_mono (omega arith)))))

  pub below_even : (b : ℕ) → end - p ≡ k / 8 + 1 → b ≡ octet_at s p → ltb b (2 ^ (k % 8)) ≡ ltb (number s body end) (2 ^ k)
  below_even b l o =
      let P = 2 ^ (8 * (k / 8)) in
      let i : p < end = omega arith in
      let n : end - (p + 1) ≡ k / 8 = omega arith in
      let q : 2 ^ k ≡ 2 ^ (k % 8) * P = ap (λ (m : ℕ). 2 ^ m) (split_eight k) ∙ pow-add 2 (k % 8) (8 * (k / 8)) in
      let w : number s (p + 1) end < P = subst (λ (m : ℕ). number s (p + 1) end < 2 ^ (8 * m)) n (number_below s h (p + 1) end) in
      let v : number s p end ≡ octet_at s p * P + number s (p + 1) end =
      number_top s p end i ∙ ap (λ (m : ℕ). octet_at s p * 2 ^ (8 * m) + number s (p + 1) end) n in
      rw (← (leads s body end p e).same, v, q, o) (against (octet_at s p) (2 ^ (k % 8)) P (number s (p + 1) end) w)
    where
      split_eight : (k : ℕ) → k ≡ k % 8 + 8 * (k / 8)
      split_eight k = omega arith

      against : (b E P w : ℕ) → w < P → ltb b E ≡ ltb (b * P + w) (E * P)
      against b E P w l = ltb_same b E (b * P + w) (E * P) (λ x. omega (arith, mul-le-mul_right P x)) (λ x. back x (ltb b E) refl)
        where
          back : b * P + w < E * P → (t : Bool) → ltb b E ≡ t → b < E
          back x true q = ltb-true b E q
          back x false q = absurd (omega (arith, mul-le-mul_right P (ltb-false b E q)))

  pub below_long : k / 8 + 1 < end - p → false ≡ ltb (number s body end) (2 ^ k)
  below_long l =
      let i : p < end = omega arith in
      let m : 2 ^ k ≤ 2 ^ (8 * (end - (p + 1))) = pow_mono (omega arith) in
      rw (← (leads s body end p e).same, number_top s p end i)
      (sym (le-ltb (octet_at s p * 2 ^ (8 * (end - (p + 1))) + number s (p + 1) end) (2 ^ k)
      (omega (arith, m, mul-le-mul_right (2 ^ (8 * (end - (p + 1)))) ((leads s body end p e).above i)))))

pub not_below : (v m : ℕ) → not (ltb v m) ≡ leb m v
not_below v m = go (ltb v m) refl
  where
    go : (t : Bool) → ltb v m ≡ t → not t ≡ leb m v
    go true e = sym (lt-leb m v (ltb-true v m e))
    go false e = sym (le-leb m v (ltb-false v m e))

pub bits_some : (k v : ℕ) → (not (ltb v (2 ^ (k - 1))) && ltb v (2 ^ k)) ≡ has_bits k v
bits_some k v = ap (λ (t : Bool). t && ltb v (2 ^ k)) (not_below v (2 ^ (k - 1)))

pub bits_none : (k v : ℕ) → k ≡ 0 → false ≡ has_bits k v
bits_none k v e = rw (e, ← not_below v 1) (contrary (ltb v 1))
  where
    contrary : (t : Bool) → false ≡ (not t && t)
    contrary true = refl
    contrary false = refl
