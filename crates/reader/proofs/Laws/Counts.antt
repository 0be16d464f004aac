-- What each step of the reader passes: how reading goes on, and what it adds to the counts.
--     reads_on       what stands at a position is the first event from there; the others are those from where the step ends
--     Step, step     what a step at a position adds to the counts, and where it ends
--     ends           nothing is found where no block is left
-- Assumes nothing.
use mathlib.Core.Path.{◌≡◌, sym, ap, ◌∙◌}
use mathlib.Core.Bool.{Bool, true, false}
use mathlib.Core.Logic.{⊎_elim}
use mathlib.Core.List.{List, [], ◌∷◌}
use Prim.Native.Nat.{ℕ, suc, ◌+◌, ◌*◌, ◌≤◌, ◌<◌}
use native.Mathlib.Omega.{arith}
use lib.ListN.{length, drop}
use lib.Seq.{drop-drop}
use Rattle.reader.specs.Runs.{blocks, block_at, from, first_block, starts}
use Rattle.reader.specs.Events.{Event, event_if, reading, events_from}
use Rattle.reader.specs.Finding.{found_if, found_at, blocks_in}
use Rattle.reader.specs.Counting.{records_in, lost_in}
use Rattle.reader.specs.declared.finding.Found.{Found}
use Rattle.reader.specs.declared.finding.Found.TheVariants.{Record, Lost, End}
use Rattle.blocks.specs.Block.{record_length}
use Rattle.blocks.specs.Record.{parts}
use Rattle.blocks.proofs.Laws.Logic.{true_or_false, below_or_not}
use Rattle.reader.proofs.Laws.Steps.{some_parts, past_record, past_lost}
use Rattle.reader.proofs.Laws.Places.{from_cons, from_nil, first_is_lem}
use Rattle.reader.proofs.Laws.Found.{found_by, found_none, found_record, found_lost, run_within}

-- how many records and lost blocks a step counts
abbrev pub records_passed : Found → ℕ
records_passed (Record number n) = 1
records_passed (Lost loss) = 0
records_passed End = 0

abbrev pub lost_passed : Found → ℕ
lost_passed (Record number n) = 0
lost_passed (Lost loss) = 1
lost_passed End = 0

pub record Step (d : List ℕ) (i : ℕ) (found : Found) : Type 0 where
  pub counts_records : length (records_in (events_from d i)) ≡ records_passed found + length (records_in (events_from d (i + blocks_in found)))
  pub counts_lost : length (lost_in (events_from d i)) ≡ lost_passed found + length (lost_in (events_from d (i + blocks_in found)))
  pub within : 512 * (i + blocks_in found) ≤ length d + 511
  pub moves : records_passed found + lost_passed found ≤ blocks_in found

module _ (d : List ℕ) (i : ℕ) where
  -- past a record, and past a lost block
  past_run : 512 * i < length d → starts (from d i) ≡ true
      → events_from d i ≡ event_if true i (from d i) ∷ events_from d (i + parts (record_length (block_at d i)))
  past_run h t =
      let k : ℕ = parts (record_length (block_at d i)) in
      let same : parts (record_length (first_block (from d i))) ≡ k = ap (λ (b : List ℕ). parts (record_length b)) (first_is_lem d i h) in
      past_record i (from d i) t
      ∙ ap (λ (m : ℕ). event_if true i (from d i) ∷ reading 0 (i + m) (drop m (from d i))) same
      ∙ ap (λ (bs : List (List ℕ)). event_if true i (from d i) ∷ reading 0 (i + k) bs) (drop-drop k i (blocks d))

  past_block : 512 * i < length d → starts (from d i) ≡ false → events_from d i ≡ event_if false i (from d i) ∷ events_from d (i + 1)
  past_block h f =
      let e : suc i ≡ i + 1 = omega arith in
      ap (λ (bs : List (List ℕ)). reading 0 i bs) (from_cons d i h)
      ∙ past_lost i (block_at d i) (from d (suc i)) (ap starts (sym (from_cons d i h)) ∙ f)
      ∙ ap (λ (bs : List (List ℕ)). event_if false i bs ∷ events_from d (suc i)) (sym (from_cons d i h))
      ∙ ap (λ (m : ℕ). event_if false i (from d i) ∷ events_from d m) e

  pub reads_on : 512 * i < length d
      → events_from d i ≡ event_if (starts (from d i)) i (from d i) ∷ events_from d (i + blocks_in (found_at d i))
  reads_on h =
      ⊎_elim
      (λ (t : starts (from d i) ≡ true). rw (t, found_record d i h t) (past_run h t))
      (λ (f : starts (from d i) ≡ false). rw (f, found_lost d i h f) (past_block h f))
      (true_or_false (starts (from d i)))

  record_step : 512 * i < length d → starts (from d i) ≡ true → Step d i (found_at d i)
  record_step h t =
      let same : parts (record_length (first_block (from d i))) ≡ parts (record_length (block_at d i)) =
      ap (λ (b : List ℕ). parts (record_length b)) (first_is_lem d i h) in
      rw (found_record d i h t)
      record {
        counts_records = omega (arith, ap (λ (es : List Event). length (records_in es)) (past_run h t));
        counts_lost = omega (arith, ap (λ (es : List Event). length (lost_in es)) (past_run h t));
        within = omega (arith, run_within d i t h);
        moves = omega (arith, some_parts (from d i) t);
      }

  lost_step : 512 * i < length d → starts (from d i) ≡ false → Step d i (found_at d i)
  lost_step h f =
      rw (found_lost d i h f)
      record {
        counts_records = omega (arith, ap (λ (es : List Event). length (records_in es)) (past_block h f));
        counts_lost = omega (arith, ap (λ (es : List Event). length (lost_in es)) (past_block h f));
        within = omega arith;
        moves = omega arith;
      }

  ended : length d ≤ 512 * i → 512 * i ≤ length d + 511 → Step d i (found_at d i)
  ended h k =
      let e : i ≡ i + 0 = omega arith in
      rw (found_none d i h)
      record {
        counts_records = omega (arith, ap (λ (m : ℕ). length (records_in (events_from d m))) e);
        counts_lost = omega (arith, ap (λ (m : ℕ). length (lost_in (events_from d m))) e);
        within = omega arith;
        moves = omega arith;
      }

  pub step : 512 * i ≤ length d + 511 → Step d i (found_at d i)
  step k =
      ⊎_elim
      (λ (h : 512 * i < length d). ⊎_elim (record_step h) (lost_step h) (true_or_false (starts (from d i))))
      (λ (h : length d ≤ 512 * i). ended h k)
      (below_or_not (512 * i) (length d))

  -- a block is a record's or lost
  never_end : (t : Bool) (bs : List (List ℕ)) → found_if t bs ≡ End → ⊥
  never_end true bs e = let z : ◌≡◌ {A = ℕ} 0 1 = cc in omega arith
  never_end false bs e = let z : ◌≡◌ {A = ℕ} 0 1 = cc in omega arith

  pub ends : found_at d i ≡ End → from d i ≡ []
  ends e =
      ⊎_elim
      (λ (h : 512 * i < length d). absurd (never_end (starts (from d i)) (block_at d i ∷ from d (suc i)) (sym (found_by d i h) ∙ e)))
      (λ (h : length d ≤ 512 * i). from_nil d i h)
      (below_or_not (512 * i) (length d))
