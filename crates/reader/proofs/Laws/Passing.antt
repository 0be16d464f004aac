-- How far a step goes, by the item that it hands out.
--     record_long     a record has as many octets as its blocks say
--     item_blocks_lem     as far as by what is found
--     item_within     not past the deck's end
--     item_moves      one block at least, where the deck goes on
--     item_inside, item_past     the deck goes on exactly where a block is passed
-- Assumes nothing.
use mathlib.Core.Path.{◌≡◌, refl, ap}
use mathlib.Core.Bool.{Bool, true, false}
use mathlib.Core.Logic.{⊎_elim}
use mathlib.Core.List.{List}
use Prim.Native.Nat.{ℕ, ◌+◌, ◌*◌, ◌≤◌, ◌<◌}
use native.Mathlib.Omega.{arith}
use lib.ListN.{length}
use lib.Seq.{length-take-le}
use borrow.Author.Tests.{lt-ltb, le-ltb}
use Rattle.reader.specs.Runs.{from, first_block, starts, data_from, record_from}
use Rattle.reader.specs.Events.{event_if}
use Rattle.reader.specs.Finding.{found_if, found_at, blocks_in}
use Rattle.reader.specs.Stepping.{item_of, item_blocks, item_at}
use Rattle.blocks.specs.Block.{record_length}
use Rattle.blocks.specs.Record.{parts}
use Rattle.blocks.proofs.Laws.Logic.{below_or_not}
use Rattle.reader.proofs.Laws.Steps.{some_parts}
use Rattle.reader.proofs.Laws.Places.{data_length}
use Rattle.reader.proofs.Laws.Found.{run_within}
use Rattle.reader.proofs.Laws.Counts.{step}

module _ (d : List ℕ) (i : ℕ) where
  -- a record has as many octets as its blocks say
  pub record_long : 512 * i < length d → starts (from d i) ≡ true → length (record_from (from d i)) ≡ record_length (first_block (from d i))
  unfolding record_from
  record_long h t =
      let n : ℕ = record_length (first_block (from d i)) in
      let long : length (data_from (parts n) (from d i)) ≡ parts n * 502 = data_length (parts n) d i (run_within d i t h) in
      length-take-le n (data_from (parts n) (from d i)) (omega arith)

  by_start : (room : List ℕ) → 512 * i < length d → (t : Bool) → starts (from d i) ≡ t
      → item_blocks (item_of room (event_if t i (from d i))) ≡ blocks_in (found_if t (from d i))
  by_start room h true e = ap parts (record_long h e)
  by_start room h false e = refl

  pub item_blocks_lem : (room : List ℕ) → item_blocks (item_at d i room) ≡ blocks_in (found_at d i)
  unfolding item_at found_at
  item_blocks_lem room =
      ⊎_elim
      (λ (h : 512 * i < length d). rw (lt-ltb (512 * i) (length d) h) (by_start room h (starts (from d i)) refl))
      (λ (h : length d ≤ 512 * i). rw (le-ltb (512 * i) (length d) h))
      (below_or_not (512 * i) (length d))

  pub item_within : (room : List ℕ) → 512 * i ≤ length d + 511 → 512 * (i + item_blocks (item_at d i room)) ≤ length d + 511
  item_within room h = rw (item_blocks_lem room) (step d i h).within

  some_found : 512 * i < length d → (t : Bool) → starts (from d i) ≡ t → 0 < blocks_in (found_if t (from d i))
  some_found h true e = some_parts (from d i) e
  some_found h false e = omega arith

  pub item_moves : (room : List ℕ) → 512 * i < length d → 0 < item_blocks (item_at d i room)
  unfolding found_at
  item_moves room h = rw (item_blocks_lem room, lt-ltb (512 * i) (length d) h) (some_found h (starts (from d i)) refl)

  -- a step that passes a block stands before the deck's end, and one that passes none does not
  pub item_inside : (room : List ℕ) → (item_blocks (item_at d i room) ≡ 0 → ⊥) → 512 * i < length d
  unfolding item_at
  item_inside room some =
      ⊎_elim
      (λ (h : 512 * i < length d). h)
      (λ (h : length d ≤ 512 * i). absurd (some (rw (le-ltb (512 * i) (length d) h))))
      (below_or_not (512 * i) (length d))

  pub item_past : (room : List ℕ) → item_blocks (item_at d i room) ≡ 0 → length d ≤ 512 * i
  item_past room none =
      ⊎_elim
      (λ (h : 512 * i < length d). absurd (omega (arith, none, item_moves room h)))
      (λ (h : length d ≤ 512 * i). h)
      (below_or_not (512 * i) (length d))
