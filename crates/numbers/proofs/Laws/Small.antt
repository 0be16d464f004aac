-- Numbers as far as 2^32 counts.
--     small_step, small_end     the loop over the octets
--     least_is                  a number below 2^32 is as far below the whole number as below what is counted
-- Assumes nothing.
use mathlib.Core.Path.{◌≡◌, refl, sym, ◌∙◌}
use mathlib.Core.List.{List}
use mathlib.Core.Bool.{Bool, true, false, cond}
use Prim.Native.Nat.{ℕ, zero, suc, ◌+◌, ◌-◌, ◌*◌, ◌^◌, ◌≤◌, ◌<◌, min}
use native.Mathlib.Omega.{arith}
use lib.Dec.{ltb, leb}
use borrow.Author.Tests.{le-leb, ltb-false}
use Rattle.octets.specs.Octets.{octet_at, octets_from}
use Rattle.octets.specs.Numbers.{number_from}
use Rattle.octets.proofs.Laws.Numbers.{number_grows}
use Rattle.numbers.proofs.Laws.Values.{ltb_same, octets_none, number_first}

abbrev pub pushed : ℕ → ℕ → ℕ
pushed n b = cond (ltb n (2 ^ 24)) (256 * n + b) (2 ^ 32)

push_on : (n b : ℕ) (bs : List ℕ) → min (number_from (256 * n + b) bs) (2 ^ 32) ≡ min (number_from (pushed n b) bs) (2 ^ 32)
push_on n b bs = go (ltb n (2 ^ 24)) refl
  where
    go : (t : Bool) → ltb n (2 ^ 24) ≡ t → min (number_from (256 * n + b) bs) (2 ^ 32) ≡ min (number_from (pushed n b) bs) (2 ^ 32)
    go true e = rw e refl
    go false e = rw e (omega (arith, ltb-false n (2 ^ 24) e, number_grows (256 * n + b) bs, number_grows (2 ^ 32) bs))

pub small_step : (s : List ℕ) (n i end b m : ℕ) → i < end → b ≡ octet_at s i → m ≡ pushed n b
    → min (number_from n (octets_from s i (end - i))) (2 ^ 32) ≡ min (number_from m (octets_from s (i + 1) (end - (i + 1)))) (2 ^ 32)
small_step s n i end b m h e f =
    rw (number_first s n i end h, f, e) (push_on n (octet_at s i) (octets_from s (i + 1) (end - (i + 1))))

pub small_end : (s : List ℕ) (n i end : ℕ) → end ≤ i → n ≤ 2 ^ 32 → min (number_from n (octets_from s i (end - i))) (2 ^ 32) ≡ n
unfolding number_from
small_end s n i end h l = rw (octets_none s i end h) (omega arith)

pub least_is : (k v : ℕ) → k < 2 ^ 32 → leb k (min v (2 ^ 32)) ≡ leb k v
least_is zero v h = le-leb 0 (min v (2 ^ 32)) (omega arith) ∙ sym (le-leb 0 v (omega arith))
least_is (suc k) v h = ltb_same k (min v (2 ^ 32)) k v (λ l. omega arith) (λ l. omega arith)
