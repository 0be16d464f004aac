-- What the writer's blocks are: a run, whatever follows it, and the record again.
--     block_is_part                              each block is its part
--     blocks_start                               a run starts at the first
--     first_number, first_length, blocks_record  its number, its length and its octets
-- Assumes nothing.
use mathlib.Core.Path.{◌≡◌, refl, sym, ap}
use mathlib.Core.Bool.{true, not}
use mathlib.Core.List.{List, ◌++◌}
use Prim.Native.Nat.{ℕ, zero, suc, ◌*◌, ◌-◌, ◌^◌, ◌<◌}
use native.Mathlib.Omega.{arith}
use native.Mathlib.Nat.{not-suc-le-zero}
use lib.ListN.{length, take, drop, replicate, length-drop, take-append-drop, drop_of_length-le, get_or-append}
use lib.Seq.{take_at, drop_at, length-take-le}
use borrow.Author.Tests.{eq-eqb, le-leb, ne_eqb}
use Rattle.blocks.specs.Block.{record_number, record_length, block_of}
use Rattle.blocks.specs.Record.{parts, are_zero}
use Rattle.blocks.proofs.Laws.Logic.{and_both, fitting}
use Rattle.blocks.proofs.Laws.Block.{block_sound, block_number, block_len, block_part, block_clear, block_data}
use Rattle.writer.specs.Cutting.{zero_filled, blocks_from, blocks_of}
use Rattle.writer.proofs.Laws.Cutting.{filled_length}
use Rattle.reader.specs.Runs.{is_part, are_parts, data_from, is_whole, run, first_block, starts, record_from}
use Rattle.recovery.proofs.Laws.Taken.{Proper}

pub block_is_part : (number n j : ℕ) (content : List ℕ) → number < 2 ^ 32 → n < 65536 → length content ≡ 502
    → is_part number n j (block_of number n j content) ≡ true
unfolding is_part
block_is_part number n j content hnumber hn h =
    and_both (block_sound number n j content hnumber hn h)
    (and_both (eq-eqb _ _ (block_number number n j content hnumber hn h))
    (and_both (eq-eqb _ _ (block_len number n j content hnumber hn h))
    (and_both (eq-eqb _ _ (block_part number n j content)) (block_clear number n j content))))

-- k blocks, of as much data, before others
module _ (number n : ℕ) (hnumber : number < 2 ^ 32) (hn : n < 65536) (rest : List (List ℕ)) where
  from_parts : (k j : ℕ) (content : List ℕ) → length content ≡ k * 502 → are_parts number n j k (blocks_from number n j k content ++ rest) ≡ true
  from_parts zero j content h = refl
  from_parts (suc k) j content h =
      and_both (block_is_part number n j (take 502 content) hnumber hn (length-take-le 502 content (omega arith)))
      (from_parts k (suc j) (drop 502 content) (simp length-drop (omega arith)))

  from_data : (k j : ℕ) (content : List ℕ) → length content ≡ k * 502 → data_from k (blocks_from number n j k content ++ rest) ≡ content
  from_data zero j content h = sym (drop_of_length-le content {i = 0} (omega arith))
  from_data (suc k) j content h =
      rw (
        block_data number n j (take 502 content) hnumber hn (length-take-le 502 content (omega arith)),
        from_data k (suc j) (drop 502 content) (simp length-drop (omega arith)),
      )
      (take-append-drop 502 content)

zeros_replicate : (n : ℕ) → are_zero (replicate n 0) ≡ true
zeros_replicate zero = refl
zeros_replicate (suc n) = and_both refl (zeros_replicate n)

-- ---- a whole record

module _ (p : List ℕ) (ok : Proper p) where
  filled_record : take (length p) (zero_filled p) ≡ p
  unfolding zero_filled
  filled_record = take_at p _ (length p) refl

  filled_whole : is_whole (length p) (zero_filled p) ≡ true
  unfolding zero_filled is_whole
  filled_whole =
      let fill : List ℕ = replicate (parts (length p) * 502 - length p) 0 in
      and_both
      (rw (drop_at p fill (length p) refl) (zeros_replicate (parts (length p) * 502 - length p)))
      (rw (get_or-append p fill 0 1 (omega (arith, ok.least)), get_or-append p fill 0 2 (omega (arith, ok.least)))
      (le-leb _ _ ok.inside))

  first_data : length (take 502 (zero_filled p)) ≡ 502
  first_data = length-take-le 502 (zero_filled p) (omega (arith, filled_length p, ok.least))

  module _ (number : ℕ) (h₀ : 0 < number) (hnumber : number < 2 ^ 32) (rest : List (List ℕ)) where
    blocks_run : run number (length p) (blocks_of number p ++ rest) ≡ true
    unfolding run blocks_of
    blocks_run =
        let hn : length p < 65536 = omega (arith, ok.most) in
        and_both (ap not (ne_eqb number 0 (omega arith)))
        (and_both (fitting 3 16387 (length p) ok.least ok.most)
        (and_both (from_parts number (length p) hnumber hn rest (parts (length p)) 0 (zero_filled p) (filled_length p))
        (rw (from_data number (length p) hnumber hn rest (parts (length p)) 0 (zero_filled p) (filled_length p)) filled_whole)))

    first_block_lem : first_block (blocks_of number p ++ rest) ≡ block_of number (length p) 0 (take 502 (zero_filled p))
    unfolding blocks_of
    first_block_lem = go (parts (length p)) (omega (arith, ok.least))
      where
        go : (k : ℕ) → 0 < k → first_block (blocks_from number (length p) 0 k (zero_filled p) ++ rest) ≡ block_of number (length p) 0 (take 502 (zero_filled p))
        go zero h = absurd (not-suc-le-zero h)
        go (suc k) h = refl

    pub first_number : record_number (first_block (blocks_of number p ++ rest)) ≡ number
    first_number = rw first_block_lem (block_number number (length p) 0 (take 502 (zero_filled p)) hnumber (omega (arith, ok.most)) first_data)

    pub first_length : record_length (first_block (blocks_of number p ++ rest)) ≡ length p
    first_length = rw first_block_lem (block_len number (length p) 0 (take 502 (zero_filled p)) hnumber (omega (arith, ok.most)) first_data)

    pub blocks_start : starts (blocks_of number p ++ rest) ≡ true
    unfolding starts
    blocks_start = rw (first_number, first_length) blocks_run

    blocks_data : take (length p) (data_from (parts (length p)) (blocks_of number p ++ rest)) ≡ p
    unfolding blocks_of
    blocks_data =
        rw (from_data number (length p) hnumber (omega (arith, ok.most)) rest (parts (length p)) 0 (zero_filled p) (filled_length p)) filled_record

    pub blocks_record : record_from (blocks_of number p ++ rest) ≡ p
    unfolding record_from
    blocks_record = rw first_length blocks_data
