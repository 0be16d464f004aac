-- Where the blocks of a deck stand in it.
--     block_total             how many blocks a deck has
--     from_cons, from_nil     the blocks from a position on: the block there and those after it, or none past the end
--     first_is_lem, next_block    the first of them; a block further on
--     block_long, data_full   a block that is not at the end has 512 octets, of which 502 are data
--     parts_step              one part more, also where the deck has ended
--     data_length             how much data the k blocks from a position on have
-- Assumes nothing.
use mathlib.Core.Path.{◌≡◌, refl, sym, ap, ◌∙◌}
use mathlib.Core.Bool.{false}
use mathlib.Core.Logic.{⊎_elim}
use mathlib.Core.List.{List, [], ◌∷◌}
use Prim.Native.Nat.{ℕ, zero, suc, ◌+◌, ◌*◌, ◌/◌, ◌≤◌, ◌<◌}
use native.Mathlib.Nat.{le_of_suc-le-suc, not-suc-le-zero}
use native.Mathlib.Omega.{arith}
use lib.ListN.{length, take, drop, length-append, length-drop, drop_of_length-le}
use lib.Seq.{drop-drop, length-take-le}
use Rattle.reader.specs.Runs.{cut, blocks, from, block_at, is_part, are_parts, data_from, first_block}
use Rattle.blocks.specs.Tests.{◌and◌}
use Rattle.blocks.specs.Block.{sound, data_of}
use Rattle.blocks.proofs.Laws.Logic.{and_not_left, below_or_not}

pub next_block : (d : List ℕ) (i : ℕ) → block_at (drop 512 d) i ≡ block_at d (suc i)
next_block d i =
    let e : 512 + 512 * i ≡ 512 * suc i = omega arith in
    ap (λ (l : List ℕ). take 512 l) (drop-drop (512 * i) 512 d ∙ ap (λ (m : ℕ). drop m d) e)

cut_length : (n : ℕ) (d : List ℕ) → length (cut n d) ≡ n
cut_length zero d = refl
cut_length (suc n) d = ap suc (cut_length n (drop 512 d))

cut_drop : (n i : ℕ) (d : List ℕ) → i < n → drop i (cut n d) ≡ block_at d i ∷ drop (suc i) (cut n d)
cut_drop zero i d h = absurd (not-suc-le-zero h)
cut_drop (suc n) zero d h = refl
cut_drop (suc n) (suc i) d h =
    cut_drop n i (drop 512 d) (le_of_suc-le-suc h)
    ∙ ap (λ (b : List ℕ). b ∷ drop (suc i) (cut n (drop 512 d))) (next_block d i)

pub block_total : (d : List ℕ) → length (blocks d) ≡ (length d + 511) / 512
unfolding blocks
block_total d = cut_length ((length d + 511) / 512) d

-- the blocks from position i on: the block there and those after it, or none past the end
pub from_cons : (d : List ℕ) (i : ℕ) → 512 * i < length d → from d i ≡ block_at d i ∷ from d (suc i)
unfolding blocks
from_cons d i h = cut_drop ((length d + 511) / 512) i d (omega arith)

pub from_nil : (d : List ℕ) (i : ℕ) → length d ≤ 512 * i → from d i ≡ []
from_nil d i h = drop_of_length-le (blocks d) {i = i} (omega (arith, block_total d))

pub first_is_lem : (d : List ℕ) (i : ℕ) → 512 * i < length d → first_block (from d i) ≡ block_at d i
first_is_lem d i h = ap first_block (from_cons d i h)

pub block_long : (d : List ℕ) (i : ℕ) → 512 * i + 512 ≤ length d → length (block_at d i) ≡ 512
block_long d i h = length-take-le 512 (drop (512 * i) d) (simp length-drop (omega arith))

pub data_full : (b : List ℕ) → length b ≡ 512 → length (data_of b) ≡ 502
data_full b h = length-take-le 502 (drop 8 b) (simp length-drop (omega arith))

-- one part more, also where the deck has ended
nothing_no_part : (number n j : ℕ) → is_part number n j [] ≡ false
unfolding is_part sound ◌and◌
nothing_no_part number n j = refl

pub parts_step : (number n j m : ℕ) (d : List ℕ) (i : ℕ) → 512 * i ≤ length d
    → are_parts number n j (suc m) (from d i) ≡ (is_part number n j (block_at d i) and are_parts number n (suc j) m (from d (suc i)))
parts_step number n j m d i h =
    ⊎_elim
    (λ (l : 512 * i < length d). rw (from_cons d i l))
    (λ (l : length d ≤ 512 * i).
    rw (from_nil d i l, drop_of_length-le d l) (sym (and_not_left (are_parts number n (suc j) m (from d (suc i))) (nothing_no_part number n j))))
    (below_or_not (512 * i) (length d))

-- the data of the k blocks from position i on
pub data_length : (k : ℕ) (d : List ℕ) (i : ℕ) → 512 * (i + k) ≤ length d → length (data_from k (from d i)) ≡ k * 502
data_length zero d i h = refl
data_length (suc k) d i h =
    rw (from_cons d i (omega arith), length-append, data_length k d (suc i) (omega arith))
    (omega (arith, data_full (block_at d i) (block_long d i (omega arith))))
