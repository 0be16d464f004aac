-- What is found at a position of a deck.
--     found_by, found_none         before the deck's end, and past it
--     found_record, found_lost     where a run starts, and where not
--     block_inside, block_none     a block is empty exactly past the deck's end
--     loss_short, loss_whole       why a block is lost
--     run_within                   a run lies in the deck
--     Start, start_of              all that is known where a record is found
-- Assumes nothing.
use mathlib.Core.Path.{◌≡◌, refl, ap, ◌∙◌}
use mathlib.Core.Bool.{true, false}
use mathlib.Core.Logic.{⊎_elim}
use mathlib.Core.List.{List, ◌∷◌}
use Prim.Native.Nat.{ℕ, suc, ◌+◌, ◌-◌, ◌*◌, ◌≤◌, ◌<◌}
use native.Mathlib.Omega.{arith}
use lib.ListN.{length, drop, length-take, length-drop}
use borrow.Author.Tests.{lt-ltb, le-ltb, leb-true}
use Rattle.reader.specs.Runs.{block_at, from, data_from, is_whole, run, first_block, starts}
use Rattle.reader.specs.Events.{loss_if, loss_of}
use Rattle.reader.specs.Finding.{found_if, found_at}
use Rattle.reader.specs.declared.finding.Loss.TheVariants.{Short}
use Rattle.reader.specs.declared.finding.Found.{Found}
use Rattle.reader.specs.declared.finding.Found.TheVariants.{Record, Lost, End}
use Rattle.blocks.specs.Block.{sound, record_number, record_length}
use Rattle.blocks.specs.Record.{parts, certificate_length}
use Rattle.blocks.proofs.Laws.Logic.{and_left, and_right, fits, true_or_false, below_or_not}
use Rattle.reader.proofs.Laws.Places.{from_cons}
use Rattle.reader.proofs.Laws.Starts.{parts_within}

pub found_by : (d : List ℕ) (i : ℕ) → 512 * i < length d → found_at d i ≡ found_if (starts (from d i)) (block_at d i ∷ from d (suc i))
unfolding found_at
found_by d i h = rw (lt-ltb _ _ h) (ap (λ (bs : List (List ℕ)). found_if (starts (from d i)) bs) (from_cons d i h))

pub found_none : (d : List ℕ) (i : ℕ) → length d ≤ 512 * i → found_at d i ≡ End
unfolding found_at
found_none d i h = rw (le-ltb _ _ h)

pub found_record : (d : List ℕ) (i : ℕ) → 512 * i < length d → starts (from d i) ≡ true
    → found_at d i ≡ Record (record_number (block_at d i)) (record_length (block_at d i))
found_record d i h t = found_by d i h ∙ simp t

pub found_lost : (d : List ℕ) (i : ℕ) → 512 * i < length d → starts (from d i) ≡ false → found_at d i ≡ Lost (loss_of (block_at d i))
found_lost d i h f = found_by d i h ∙ simp f

pub block_inside : (d : List ℕ) (i : ℕ) → (length (block_at d i) ≡ 0 → ⊥) → 512 * i < length d
block_inside d i h = omega (arith, length-take 512 (drop (512 * i) d), length-drop (512 * i) d)

pub block_none : (d : List ℕ) (i : ℕ) → length (block_at d i) ≡ 0 → length d ≤ 512 * i
block_none d i h = omega (arith, length-take 512 (drop (512 * i) d), length-drop (512 * i) d)

-- why a block is lost, short or whole
pub loss_short : (b : List ℕ) → length b < 512 → loss_of b ≡ Short
unfolding loss_of
loss_short b h = rw (lt-ltb (length b) 512 h)

pub loss_whole : (b : List ℕ) → 512 ≤ length b → loss_of b ≡ loss_if false (sound b)
unfolding loss_of
loss_whole b h = rw (le-ltb (length b) 512 h)

-- all that is known where a record is found
pub record Start (d : List ℕ) (i number n : ℕ) : Type 0 where
  pub begins : starts (from d i) ≡ true
  pub number_is : number ≡ record_number (first_block (from d i))
  pub length_is : n ≡ record_length (first_block (from d i))
  pub inside : 512 * i < length d
  pub whole : 512 * (i + parts n) ≤ length d
  pub least : 3 ≤ n
  pub most : n ≤ 16387
  pub fitted : certificate_length (data_from (parts n) (from d i)) ≤ n - 3

-- the fields of what was found
number_in : Found → ℕ
number_in (Record number n) = number
number_in (Lost loss) = 0
number_in End = 0

length_in : Found → ℕ
length_in (Record number n) = n
length_in (Lost loss) = 0
length_in End = 0

module _ (d : List ℕ) (i : ℕ) (t : starts (from d i) ≡ true) where
  run_length_lem : (3 ≤ record_length (first_block (from d i))) × (record_length (first_block (from d i)) ≤ 16387)
  unfolding starts run
  run_length_lem = fits 3 16387 (record_length (first_block (from d i))) (and_left _ _ (and_right _ _ t))

  pub run_within : 512 * i < length d → 512 * (i + parts (record_length (first_block (from d i)))) ≤ length d
  unfolding starts run
  run_within h =
      parts_within (record_number (first_block (from d i))) (record_length (first_block (from d i))) 0 (parts (record_length (first_block (from d i)))) d i
      (and_left _ _ (and_right _ _ (and_right _ _ t))) (omega arith)

  run_fitted : certificate_length (data_from (parts (record_length (first_block (from d i)))) (from d i)) ≤ record_length (first_block (from d i)) - 3
  unfolding starts run is_whole
  run_fitted = leb-true _ _ (and_right _ _ (and_right _ _ (and_right _ _ (and_right _ _ t))))

  starting : 512 * i < length d → Start d i (record_number (first_block (from d i))) (record_length (first_block (from d i)))
  starting h =
      record {
        begins = t;
        number_is = refl;
        length_is = refl;
        inside = h;
        whole = run_within h;
        least = run_length_lem.0;
        most = run_length_lem.1;
        fitted = run_fitted;
      }

pub start_of : (d : List ℕ) (i number n : ℕ) → found_at d i ≡ Record number n → Start d i number n
unfolding found_at number_in length_in
start_of d i number n e =
    ⊎_elim
    (λ (h : 512 * i < length d).
    let found : found_if (starts (from d i)) (from d i) ≡ Record number n = rw (lt-ltb (512 * i) (length d) h) at e in
    ⊎_elim
    (λ (t : starts (from d i) ≡ true).
    let same : Record (record_number (first_block (from d i))) (record_length (first_block (from d i))) ≡ Record number n = rw t at found in
    rw (← ap number_in same, ← ap length_in same) (starting d i t h))
    (λ (f : starts (from d i) ≡ false).
    absurd (let z : ◌≡◌ {A = ℕ} 0 1 = (let other = rw f at found in cc) in omega arith))
    (true_or_false (starts (from d i))))
    (λ (h : length d ≤ 512 * i). absurd (let z : ◌≡◌ {A = ℕ} 0 1 = (let other = rw (le-ltb (512 * i) (length d) h) at e in cc) in omega arith))
    (below_or_not (512 * i) (length d))
