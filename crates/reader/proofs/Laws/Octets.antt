-- Of a deck of octets, what is read are octets, and numbers of so many.
--     octets_join, octets_take, octets_drop     lists of octets put together and cut
--     record_octets      the octets of a record
--     number_small       a record's number has four octets
-- Assumes nothing.
use mathlib.Core.Logic.{⊎_elim}
use mathlib.Core.List.{List, [], ◌∷◌, ◌++◌}
use Prim.Native.Nat.{ℕ, zero, suc, ◌+◌, ◌*◌, ◌^◌, ◌≤◌, ◌<◌}
use native.Mathlib.Omega.{arith}
use lib.ListN.{length, take, drop}
use lib.Seq.{get_or-drop}
use Rattle.reader.specs.Runs.{block_at, from, first_block, data_from, record_from}
use Rattle.octets.specs.Octets.{Octets}
use Rattle.blocks.specs.Block.{record_number, record_length, data_of}
use Rattle.blocks.specs.Record.{parts}
use Rattle.blocks.proofs.Laws.Logic.{below_or_not}
use Rattle.reader.proofs.Laws.Places.{from_cons, from_nil, first_is_lem}

none_octets : Octets []
none_octets i = omega arith

octets_join : (xs ys : List ℕ) → Octets xs → Octets ys → Octets (xs ++ ys)
octets_join [] ys a b i = b i
octets_join (x ∷ xs) ys a b zero = a zero
octets_join (x ∷ xs) ys a b (suc i) = octets_join xs ys (λ j. a (suc j)) b i

octets_take : (n : ℕ) (s : List ℕ) → Octets s → Octets (take n s)
octets_take zero s o i = none_octets i
octets_take (suc n) [] o i = none_octets i
octets_take (suc n) (x ∷ xs) o zero = o zero
octets_take (suc n) (x ∷ xs) o (suc i) = octets_take n xs (λ j. o (suc j)) i

octets_drop : (n : ℕ) (s : List ℕ) → Octets s → Octets (drop n s)
octets_drop n s o i = rw (get_or-drop n s i 0) (o (n + i))

module _ (d : List ℕ) (o : Octets d) where
  block_octets : (i : ℕ) → Octets (block_at d i)
  block_octets i = octets_take 512 (drop (512 * i) d) (octets_drop (512 * i) d o)

  data_octets : (k i : ℕ) → Octets (data_from k (from d i))
  data_octets zero i = none_octets
  data_octets (suc k) i =
      ⊎_elim
      (λ (h : 512 * i < length d). rw (from_cons d i h)
      (octets_join (data_of (block_at d i)) (data_from k (from d (suc i)))
      (octets_take 502 (drop 8 (block_at d i)) (octets_drop 8 (block_at d i) (block_octets i))) (data_octets k (suc i))))
      (λ (h : length d ≤ 512 * i). rw (from_nil d i h) none_octets)
      (below_or_not (512 * i) (length d))

  pub record_octets : (i : ℕ) → Octets (record_from (from d i))
  unfolding record_from
  record_octets i =
      let n : ℕ = record_length (first_block (from d i)) in
      octets_take n (data_from (parts n) (from d i)) (data_octets (parts n) i)

  pub number_small : (i : ℕ) → 512 * i < length d → record_number (first_block (from d i)) < 2 ^ 32
  number_small i h =
      let b : List ℕ = block_at d i in
      rw (first_is_lem d i h) (omega (arith, block_octets i 0, block_octets i 1, block_octets i 2, block_octets i 3))
