-- The data of blocks that stand one behind the other, copied together.
--     data_place      where the data of a block stands in the deck
--     data_snoc       the data of one block more
--     gathered, gathered_long     it is copied behind that of the blocks before it
--     desk_with_lem                   where deck and desk have the octets, the data is on the desk
--     desk_inside, desk_else      the test that decides has passed, or failed
-- Assumes nothing.
use mathlib.Core.Path.{◌≡◌, sym, ap, ap₂, ◌∙◌}
use mathlib.Core.Bool.{Bool, true, false, ◌&&◌}
use mathlib.Core.List.{List, ◌++◌, append_assoc, append-nil}
use Prim.Native.Nat.{ℕ, zero, suc, ◌+◌, ◌*◌, ◌/◌, ◌≤◌}
use native.Mathlib.Omega.{arith}
use lib.Dec.{leb}
use lib.ListN.{length, take, drop, length-append, length-drop}
use lib.Seq.{take_at, drop_at, take-add, take-take, drop-drop, drop-append-add, length-take-le}
use borrow.Author.Tests.{leb-true, le-leb}
use Rattle.reader.specs.Runs.{from, block_at, data_from}
use Rattle.reader.specs.Workings.Desk.{desk_with}
use Rattle.octets.specs.Copying.{copied}
use Rattle.octets.proofs.Laws.Copying.{copied_paste}
use Rattle.octets.proofs.Laws.Tests.{and_l, and_r}
use Rattle.blocks.specs.Block.{data_of}
use Rattle.reader.proofs.Laws.Places.{from_cons, data_length}

pub data_place : (d : List ℕ) (i : ℕ) → 512 * i + 512 ≤ length d → data_of (block_at d i) ≡ take 502 (drop (512 * i + 8) d)
data_place d i h =
    let X : List ℕ = drop (512 * i) d in
    let long : 512 ≤ length X = simp length-drop (omega arith) in
    ap (λ (l : List ℕ). take 502 (drop 8 l)) (take-add 8 504 X)
    ∙ ap (λ (l : List ℕ). take 502 l) (drop_at (take 8 X) (take 504 (drop 8 X)) 8 (length-take-le 8 X (omega arith)))
    ∙ take-take 502 504 (drop 8 X) (omega arith)
    ∙ ap (λ (l : List ℕ). take 502 l) (drop-drop 8 (512 * i) d)

pub data_snoc : (j : ℕ) (d : List ℕ) (i : ℕ) → 512 * (i + suc j) ≤ length d
    → data_from (suc j) (from d i) ≡ data_from j (from d i) ++ data_of (block_at d (i + j))
data_snoc zero d i h =
    let e : i ≡ i + 0 = omega arith in
    rw (from_cons d i (omega arith)) (append-nil (data_of (block_at d i)) ∙ ap (λ (m : ℕ). data_of (block_at d m)) e)
data_snoc (suc j) d i h =
    let e : suc i + j ≡ i + suc j = omega arith in
    rw (from_cons d i (omega arith))
    (ap (λ (l : List ℕ). data_of (block_at d i) ++ l) (data_snoc j d (suc i) (omega arith))
    ∙ sym (append_assoc (data_of (block_at d i)) (data_from j (from d (suc i))) (data_of (block_at d (suc i + j))))
    ∙ ap (λ (m : ℕ). (data_of (block_at d i) ++ data_from j (from d (suc i))) ++ data_of (block_at d m)) e)

module _ (d : List ℕ) (i j : ℕ) (desk₀ desk last : List ℕ) (inside : 512 * (i + suc j) ≤ length d) (room : suc j * 502 ≤ length desk₀)
    (e : desk ≡ data_from j (from d i) ++ drop (j * 502) desk₀) (c : last ≡ copied d (512 * (i + j) + 8) 502 desk (502 * j)) where
  abbrev before : List ℕ
  before = data_from j (from d i)

  before_long : length before ≡ j * 502
  before_long = data_length j d i (omega arith)

  desk_long : length desk ≡ length desk₀
  desk_long = ap length e ∙ simp (length-append, length-drop) (omega (arith, before_long))

  front : take (502 * j) desk ≡ before
  front = ap (λ (l : List ℕ). take (502 * j) l) e ∙ take_at before (drop (j * 502) desk₀) (502 * j) (omega (arith, before_long))

  back : drop (502 * j + 502) desk ≡ drop (suc j * 502) desk₀
  back =
      let m : 502 * j + 502 ≡ length before + 502 = omega (arith, before_long) in
      let k : j * 502 + 502 ≡ suc j * 502 = omega arith in
      ap (λ (l : List ℕ). drop (502 * j + 502) l) e
      ∙ ap (λ (n : ℕ). drop n (before ++ drop (j * 502) desk₀)) m
      ∙ drop-append-add before (drop (j * 502) desk₀) 502
      ∙ drop-drop 502 (j * 502) desk₀
      ∙ ap (λ (n : ℕ). drop n desk₀) k

  pub gathered : last ≡ data_from (suc j) (from d i) ++ drop (suc j * 502) desk₀
  gathered =
      c
      ∙ copied_paste d (512 * (i + j) + 8) 502 desk (502 * j) (omega arith) (omega (arith, desk_long))
      ∙ ap₂ (λ (l r : List ℕ). (l ++ take 502 (drop (512 * (i + j) + 8) d)) ++ r) front back
      ∙ ap (λ (l : List ℕ). (before ++ l) ++ drop (suc j * 502) desk₀) (sym (data_place d (i + j) (omega arith)))
      ∙ ap (λ (l : List ℕ). l ++ drop (suc j * 502) desk₀) (sym (data_snoc j d i (omega arith)))

  pub gathered_long : length last ≡ length desk₀
  gathered_long = ap length gathered ∙ simp (length-append, length-drop) (omega (arith, data_length (suc j) d i (omega arith)))

-- ---- all of it, or none

module _ (d : List ℕ) (i k : ℕ) (desk : List ℕ) where
  pub desk_with_lem : 512 * (i + k) ≤ length d → k * 502 ≤ length desk → desk_with d i k desk ≡ data_from k (from d i) ++ drop (k * 502) desk
  unfolding desk_with
  desk_with_lem h l = rw (le-leb (i + k) (length d / 512) (omega arith), le-leb k (length desk / 502) (omega arith))

  module _ (a : Bool) (e : a ≡ leb (i + k) (length d / 512)) where
    pub desk_inside : (a && leb k (length desk / 502)) ≡ true → (512 * (i + k) ≤ length d) × (k * 502 ≤ length desk)
    desk_inside t =
        let deck : i + k ≤ length d / 512 = leb-true _ _ (rw e at (and_l a (leb k (length desk / 502)) t)) in
        let room : k ≤ length desk / 502 = leb-true _ _ (and_r a (leb k (length desk / 502)) t) in
        (omega arith, omega arith)

    pub desk_else : (a && leb k (length desk / 502)) ≡ false → desk_with d i k desk ≡ desk
    unfolding desk_with
    desk_else t = rw (← e, t)
