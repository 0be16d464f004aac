-- The number of a stretch of octets, by its first octet and the rest.
--     ltb_same                         two comparisons that say the same
--     octets_none, octets_first        the octets from a place to an end: none left; one, and those after it
--     pow_octet                        one octet more is 256 times as much
--     number_top, number_below         a number by its first octet, and its bound
--     number_none, number_first        a number that is written on: by none; by one octet, and those after it
--     value_top                        the same of a count of octets
-- Assumes nothing.
use mathlib.Core.Path.{◌≡◌, ◌∙◌}
use mathlib.Core.List.{List, [], ◌∷◌}
use Prim.Native.Nat.{ℕ, zero, suc, ◌+◌, ◌-◌, ◌*◌, ◌^◌, ◌≤◌, ◌<◌}
use native.Mathlib.Nat.{mul-le-mul_right}
use native.Mathlib.Omega.{arith}
use lib.ListN.{length}
use lib.Pow.{pow-add}
use lib.Dec.{ltb}
use Rattle.numbers.specs.Numbers.{number}
use Rattle.octets.specs.Octets.{Octets, octet_at, octets_from}
use Rattle.octets.specs.Numbers.{number_from}
use Rattle.octets.proofs.Laws.Octets.{octets_long}
use Rattle.octets.proofs.Laws.Tests.{leb_same}

-- what a slice's octets are known to be

pub ltb_same : (a b x y : ℕ) → (a < b → x < y) → (x < y → a < b) → ltb a b ≡ ltb x y
ltb_same a b x y f g = leb_same (suc a) b (suc x) y f g

pub octets_none : (s : List ℕ) (i end : ℕ) → end ≤ i → octets_from s i (end - i) ≡ []
unfolding octets_from
octets_none s i end h = let e : end - i ≡ 0 = omega arith in rw e

pub octets_first : (s : List ℕ) (i end : ℕ) → i < end → octets_from s i (end - i) ≡ octet_at s i ∷ octets_from s (i + 1) (end - (i + 1))
unfolding octets_from
octets_first s i end h = let e : end - i ≡ suc (end - (i + 1)) = omega arith in rw e

pub pow_octet : (m : ℕ) → 2 ^ (8 * suc m) ≡ 256 * 2 ^ (8 * m)
pow_octet m = let e : 8 * suc m ≡ 8 + 8 * m = omega arith in rw e (pow-add 2 8 (8 * m))

pub value_shift : (n : ℕ) (bs : List ℕ) → number_from n bs ≡ n * 2 ^ (8 * length bs) + number_from 0 bs
unfolding number_from
value_shift n [] = omega arith
value_shift n (b ∷ bs) =
    rw (value_shift (256 * n + b) bs, value_shift (256 * 0 + b) bs, pow_octet (length bs)) (omega arith)

pub value_top : (s : List ℕ) (i n : ℕ) → number_from 0 (octets_from s i (suc n)) ≡ octet_at s i * 2 ^ (8 * n) + number_from 0 (octets_from s (i + 1) n)
unfolding octets_from number_from
value_top s i n = value_shift (256 * 0 + octet_at s i) (octets_from s (i + 1) n) ∙ rw (octets_long s (i + 1) n) (omega arith)

pub value_below : (s : List ℕ) → Octets s → (n i : ℕ) → number_from 0 (octets_from s i n) < 2 ^ (8 * n)
unfolding octets_from number_from
value_below s h zero i = omega arith
value_below s h (suc n) i =
    rw (value_top s i n, pow_octet n)
    (omega (arith, value_below s h n (i + 1), mul-le-mul_right (2 ^ (8 * n)) (h i)))

pub number_top : (s : List ℕ) (p end : ℕ) → p < end → number s p end ≡ octet_at s p * 2 ^ (8 * (end - (p + 1))) + number s (p + 1) end
number_top s p end h =
    let e : end - p ≡ suc (end - (p + 1)) = omega arith in rw e (value_top s p (end - (p + 1)))

pub number_below : (s : List ℕ) → Octets s → (p end : ℕ) → number s p end < 2 ^ (8 * (end - p))
number_below s h p end = value_below s h (end - p) p

pub number_none : (s : List ℕ) (p end : ℕ) → end ≤ p → number s p end ≡ 0
unfolding number_from
number_none s p end h = rw (octets_none s p end h)

pub number_first : (s : List ℕ) (n i end : ℕ) → i < end
    → number_from n (octets_from s i (end - i)) ≡ number_from (256 * n + octet_at s i) (octets_from s (i + 1) (end - (i + 1)))
unfolding number_from
number_first s n i end h = rw (octets_first s i end h)
