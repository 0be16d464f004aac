-- Octets by their place.
--     past                          an octet past the end is 0
--     octets_done, octets_next      the octets of a stretch from its kth on: none left; one, and those after it
--     octets_long, octets_at        how many octets a stretch has; its kth
--     octets_inside, octets_whole   a stretch that stays in the list is cut out of it; the whole list
-- Assumes nothing.
use mathlib.Core.Path.{◌≡◌, refl, sym, ap, ◌∙◌}
use mathlib.Core.List.{List, [], ◌∷◌}
use Prim.Native.Nat.{ℕ, zero, suc, ◌+◌, ◌-◌, ◌≤◌, ◌<◌}
use native.Mathlib.Nat.{add_assoc, add-zero}
use native.Mathlib.Numerals.{add-one}
use native.Mathlib.Omega.{arith}
use lib.ListN.{length, get_or, take, drop, get_or-eq_default}
use lib.Seq.{drop-cons, take-length}
use Rattle.octets.specs.Octets.{octet_at, octets_from}

pub past : (s : List ℕ) (i : ℕ) → length s ≤ i → 0 ≡ octet_at s i
past s i h = sym (get_or-eq_default s 0 h)

pub octets_done : (s : List ℕ) (a n k : ℕ) → n ≤ k → octets_from s (a + k) (n - k) ≡ []
unfolding octets_from
octets_done s a n k h = let e : n - k ≡ 0 = omega arith in rw e

pub octets_next : (s : List ℕ) (a n k : ℕ) → k < n → octets_from s (a + k) (n - k) ≡ octet_at s (a + k) ∷ octets_from s (a + (k + 1)) (n - (k + 1))
unfolding octets_from
octets_next s a n k h =
    let e : n - k ≡ suc (n - (k + 1)) = omega arith in
    rw (e, ← add_assoc a k 1)

pub octets_long : (s : List ℕ) (a n : ℕ) → length (octets_from s a n) ≡ n
unfolding octets_from
octets_long s a zero = refl
octets_long s a (suc n) = ap suc (octets_long s (a + 1) n)

pub octets_at : (s : List ℕ) (a n k : ℕ) → k < n → get_or (octets_from s a n) k 0 ≡ octet_at s (a + k)
unfolding octets_from
octets_at s a zero k h = absurd (omega arith)
octets_at s a (suc n) zero h = rw add-zero
octets_at s a (suc n) (suc k) h =
    let e : a + 1 + k ≡ a + suc k = omega arith in
    octets_at s (a + 1) n k (omega arith) ∙ ap (octet_at s) e

pub octets_inside : (s : List ℕ) (a n : ℕ) → a + n ≤ length s → octets_from s a n ≡ take n (drop a s)
unfolding octets_from
octets_inside s a zero h = refl
octets_inside s a (suc n) h = rw (drop-cons s a 0 (omega arith), octets_inside s (a + 1) n (omega arith), add-one)

pub octets_whole : (s : List ℕ) → octets_from s 0 (length s) ≡ s
octets_whole s = octets_inside s 0 (length s) (omega arith) ∙ take-length s
