-- The numbers that octets say, and how far a usize counts them.
--     number_done, number_next     the number of a stretch from its kth octet on, as far as a usize counts
--     number_grows                 octets written on make no number smaller
--     number_long                  three octets or more, the first not 0, say at least 65,536
-- Assumes nothing.
use mathlib.Core.Path.{◌≡◌, refl}
use mathlib.Core.List.{List, [], ◌∷◌}
use mathlib.Core.Bool.{Bool, true, false}
use Prim.Native.Nat.{ℕ, zero, suc, ◌+◌, ◌-◌, ◌*◌, ◌≤◌, ◌<◌, min}
use native.Mathlib.Nat.{min-eq_left}
use native.Mathlib.Omega.{arith}
use lib.Dec.{leb}
use borrow.Author.Tests.{leb-true, leb-false}
use Rattle.octets.specs.Octets.{octet_at, octets_from}
use Rattle.octets.specs.Numbers.{number_from, largest}
use Rattle.octets.proofs.Laws.Octets.{octets_done, octets_next}

pub number_grows : (n : ℕ) (bs : List ℕ) → n ≤ number_from n bs
unfolding number_from
number_grows n [] = omega arith
number_grows n (b ∷ bs) = let h = number_grows (256 * n + b) bs in omega arith

pub number_long : (s : List ℕ) (at n : ℕ) → (octet_at s at ≡ 0 → ⊥) → 3 ≤ n → 65536 ≤ number_from 0 (octets_from s at n)
unfolding number_from octets_from
number_long s at zero f h = absurd (omega arith)
number_long s at (suc zero) f h = absurd (omega arith)
number_long s at (suc (suc zero)) f h = absurd (omega arith)
number_long s at (suc (suc (suc n))) f h =
    let g = number_grows (256 * (256 * (256 * 0 + octet_at s at) + octet_at s (at + 1)) + octet_at s (at + 1 + 1)) (octets_from s (at + 1 + 1 + 1) n) in
    omega arith

-- what passes the largest number goes on passing it, so it may be cut to it on the way
number_cut : (n : ℕ) (bs : List ℕ) → min (number_from n bs) largest ≡ min (number_from (min n largest) bs) largest
number_cut n bs = go (leb n largest) refl
  where
    go : (t : Bool) → leb n largest ≡ t → min (number_from n bs) largest ≡ min (number_from (min n largest) bs) largest
    go true e = rw (min-eq_left (leb-true n largest e))
    go false e =
        let h = leb-false n largest e in
        let f : min n largest ≡ largest = omega arith in
        let g = number_grows n bs in
        let k = number_grows largest bs in
        rw f (omega arith)

pub number_done : (s : List ℕ) (at n k value : ℕ) → n ≤ k → number_from value (octets_from s (at + k) (n - k)) ≡ value
unfolding number_from
number_done s at n k value h = rw (octets_done s at n k h)

pub number_next : (s : List ℕ) (at n k value next b : ℕ) → k < n → b ≡ octet_at s (at + k) → next ≡ min (256 * value + b) largest
    → min (number_from value (octets_from s (at + k) (n - k))) largest ≡ min (number_from next (octets_from s (at + (k + 1)) (n - (k + 1)))) largest
unfolding number_from
number_next s at n k value next b h e f = rw (octets_next s at n k h, ← e, f) (number_cut (256 * value + b) (octets_from s (at + (k + 1)) (n - (k + 1))))
