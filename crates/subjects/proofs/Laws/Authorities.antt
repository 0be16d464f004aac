-- Names of authorities, as they are read: words, and a number behind them.
--     number_read       a number from 1, by its first octet and the test for digits
--     numbered_read     words and such a number, each at its place
-- Assumes nothing.
use mathlib.Core.Path.{◌≡◌, refl, ap, ◌∙◌}
use mathlib.Core.List.{List, [], ◌++◌}
use mathlib.Core.Bool.{Bool, true, false, not, ◌&&◌}
use Prim.Native.Nat.{ℕ, zero, suc, ◌+◌, ◌-◌, ◌≤◌, ◌<◌}
use native.Mathlib.Omega.{arith}
use lib.ListN.{length, take, drop, drop_of_length-le}
use lib.Seq.{drop_at}
use lib.Dec.{ltb, eqb}
use borrow.Author.Tests.{ltb-true, ltb-false, lt-ltb}
use Rattle.std.specs.List.{list_all}
use Rattle.subjects.specs.Authorities.{is_number_from_one, is_numbered}
use Rattle.octets.specs.Characters.{is_digit}
use Rattle.octets.specs.Octets.{octet_at, octets_from}
use Rattle.octets.specs.Same.{same_by, exactly}
use Rattle.octets.proofs.Laws.Octets.{octets_done, octets_long}
use Rattle.octets.proofs.Laws.Stretches.{digits_all}
use Rattle.octets.proofs.Laws.Parts.{part_same, part_join, part_first}

-- ---- a number

pub number_read : (s : List ℕ) (at n first : ℕ) (digits : Bool) → first ≡ octet_at s at → digits ≡ list_all is_digit (octets_from s at n)
    → (ltb 0 n && (not (eqb first 48) && digits)) ≡ is_number_from_one (octets_from s at n)
unfolding is_number_from_one octets_from
number_read s at zero first digits e f = refl
number_read s at (suc n) first digits e f = rw (e, f, lt-ltb 0 (suc n) (omega arith), digits_all (octets_from s at (suc n)))

-- ---- words before it

-- n octets, cut behind the first m
cut : (s : List ℕ) (at m n : ℕ) → m ≤ n → octets_from s at n ≡ octets_from s at m ++ octets_from s (at + m) (n - m)
cut s at m n l = let e : n ≡ m + (n - m) = omega arith in part_same s at at n (m + (n - m)) refl e ∙ part_join s at m (n - m)

other_octets : (s : List ℕ) (at m n : ℕ) → m ≤ n → drop m (octets_from s at n) ≡ octets_from s (at + m) (n - m)
other_octets s at m n l = ap (drop m) (cut s at m n l) ∙ drop_at (octets_from s at m) (octets_from s (at + m) (n - m)) m (octets_long s at m)

and_false : (b : Bool) → (b && false) ≡ false
and_false true = refl
and_false false = refl

-- where there are fewer octets than words there is no number behind them
numbered_cut : (s : List ℕ) (body n : ℕ) (words : List ℕ) (t : Bool) → ltb n (length words) ≡ t
    → (same_by exactly (octets_from s body (length words)) words && is_number_from_one (octets_from s (body + length words) (n - length words)))
    ≡ is_numbered words (octets_from s body n)
unfolding is_numbered is_number_from_one
numbered_cut s body n words true t =
    let l : n < length words = ltb-true n (length words) t in
    let short : length (octets_from s body n) ≤ length words = omega (arith, octets_long s body n) in
    let none : drop (length words) (octets_from s body n) ≡ [] = drop_of_length-le (octets_from s body n) short in
    rw (
      octets_done s body n (length words) (omega arith),
      none,
      and_false (same_by exactly (octets_from s body (length words)) words),
      and_false (same_by exactly (take (length words) (octets_from s body n)) words),
    )
numbered_cut s body n words false t =
    let l = ltb-false n (length words) t in
    rw (part_first s body (length words) n l, other_octets s body (length words) n l)

pub numbered_read : (s : List ℕ) (body n : ℕ) (words : List ℕ) (same number : Bool)
    → same ≡ same_by exactly (octets_from s body (length words)) words
    → number ≡ is_number_from_one (octets_from s (body + length words) (n - length words)) → (same && number) ≡ is_numbered words (octets_from s body n)
numbered_read s body n words same number e f = rw (e, f) (numbered_cut s body n words (ltb n (length words)) refl)
