-- Two stretches compared as in a dictionary, from their kth octets on.
--     le_done, le_short              the first has no octet left; the second alone has none
--     le_below, le_above, le_same    by the kth octets x and y
--     ascend_begins                  the members of a list, after no octets
-- Assumes nothing.
use mathlib.Core.Path.{◌≡◌}
use mathlib.Core.List.{List, map}
use mathlib.Core.Bool.{true, false}
use Prim.Native.Nat.{ℕ, ◌+◌, ◌-◌, ◌≤◌, ◌<◌}
use native.Mathlib.Omega.{arith}
use borrow.Author.Tests.{lt-ltb, le-ltb}
use Rattle.der.specs.Header.{children_of}
use Rattle.der.specs.Order.{octets_le, ascend_from, ascending, octets_of}
use Rattle.octets.specs.Octets.{octet_at, octets_from}
use Rattle.octets.proofs.Laws.Octets.{octets_done, octets_next}

pub le_done : (s : List ℕ) (a n b m k : ℕ) → n ≤ k → octets_le (octets_from s (a + k) (n - k)) (octets_from s (b + k) (m - k)) ≡ true
unfolding octets_le
le_done s a n b m k h = rw (octets_done s a n k h)

pub le_short : (s : List ℕ) (a n b m k : ℕ) → k < n → m ≤ k → octets_le (octets_from s (a + k) (n - k)) (octets_from s (b + k) (m - k)) ≡ false
unfolding octets_le
le_short s a n b m k h l = rw (octets_next s a n k h, octets_done s b m k l)

module _ (s : List ℕ) (a n b m k x y : ℕ) (h : k < n) (l : k < m) (e : x ≡ octet_at s (a + k)) (f : y ≡ octet_at s (b + k)) where
  pub le_below : x < y → octets_le (octets_from s (a + k) (n - k)) (octets_from s (b + k) (m - k)) ≡ true
  unfolding octets_le
  le_below p = rw (octets_next s a n k h, octets_next s b m k l, ← e, ← f, lt-ltb x y p)

  pub le_above : y < x → octets_le (octets_from s (a + k) (n - k)) (octets_from s (b + k) (m - k)) ≡ false
  unfolding octets_le
  le_above p =
      let q : y ≤ x = omega arith in
      rw (octets_next s a n k h, octets_next s b m k l, ← e, ← f, le-ltb x y q, lt-ltb y x p)

  pub le_same : y ≤ x → x ≤ y
      → octets_le (octets_from s (a + k) (n - k)) (octets_from s (b + k) (m - k)) ≡ octets_le (octets_from s (a + (k + 1)) (n - (k + 1)))
      (octets_from s (b + (k + 1)) (m - (k + 1)))
  unfolding octets_le
  le_same p q = rw (octets_next s a n k h, octets_next s b m k l, ← e, ← f, le-ltb x y p, le-ltb y x q)

-- ---- the members of a list

pub ascend_begins : (s : List ℕ) (at end : ℕ)
    → ascending (map (octets_of s) (children_of s at end)) ≡ ascend_from (octets_from s at (at - at)) (map (octets_of s) (children_of s at end))
unfolding octets_from
ascend_begins s at end = let z : at - at ≡ 0 = omega arith in rw z
