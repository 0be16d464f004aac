-- How reading goes on.
--     past_record, past_lost                  past a record, and past a block that is lost
--     some_parts, run_sound, run_places       of a run that starts here: it has a part, and each of its blocks is sound and its part
--     part_sound                              a part is sound
-- Assumes nothing.
use mathlib.Core.Path.{◌≡◌, refl, ap, ◌∙◌}
use mathlib.Core.Bool.{true, false, false≢true}
use mathlib.Core.List.{List, [], ◌∷◌}
use Prim.Native.Nat.{ℕ, zero, suc, pred, ◌+◌, ◌≤◌, ◌<◌}
use native.Mathlib.Nat.{le_of_suc-le-suc, not-suc-le-zero, add-zero}
use native.Mathlib.Omega.{arith}
use lib.ListN.{get_or, drop}
use borrow.Author.Tests.{eqb-true}
use Rattle.reader.specs.Runs.{is_part, are_parts, run, first_block, starts}
use Rattle.reader.specs.Events.{Event, lost_at, loss_of, event_if, reading}
use Rattle.blocks.specs.Block.{sound, record_number, record_length, part_of}
use Rattle.blocks.specs.Record.{parts}
use Rattle.blocks.proofs.Laws.Logic.{and_left, and_right, fits}

pub skipped : (skip at : ℕ) (bs : List (List ℕ)) → reading skip at bs ≡ reading 0 (at + skip) (drop skip bs)
skipped zero at bs = ap (λ (n : ℕ). reading 0 n bs) (omega arith)
skipped (suc skip) at [] = refl
skipped (suc skip) at (b ∷ bs) = skipped skip (suc at) bs ∙ ap (λ (n : ℕ). reading 0 n (drop skip bs)) (omega arith)

-- each block of the run that starts here is sound, and its part
parts_at : (number n j k : ℕ) (bs : List (List ℕ)) → are_parts number n j k bs ≡ true → (i : ℕ) → i < k → is_part number n (j + i) (get_or bs i []) ≡ true
parts_at number n j zero bs t i h = absurd (not-suc-le-zero h)
parts_at number n j (suc k) [] t i h = absurd (false≢true t)
parts_at number n j (suc k) (b ∷ bs) t zero h = rw (add-zero j) (and_left _ _ t)
parts_at number n j (suc k) (b ∷ bs) t (suc i) h =
    ap (λ (m : ℕ). is_part number n m (get_or bs i [])) (omega arith) ∙ parts_at number n (suc j) k bs (and_right _ _ t) i (le_of_suc-le-suc h)

pub part_sound : (number n j : ℕ) (b : List ℕ) → is_part number n j b ≡ true → sound b ≡ true
unfolding is_part
part_sound number n j b t = and_left _ _ t

part_part : (number n j : ℕ) (b : List ℕ) → is_part number n j b ≡ true → part_of b ≡ j
unfolding is_part
part_part number n j b t = eqb-true _ _ (and_left _ _ (and_right _ _ (and_right _ _ (and_right _ _ t))))

-- a record that starts has three octets or more, so a part; each of its blocks is sound, and its part
module _ (bs : List (List ℕ)) (t : starts bs ≡ true) where
  pub some_parts : 0 < parts (record_length (first_block bs))
  unfolding starts run
  some_parts =
      let h : (3 ≤ record_length (first_block bs)) × (record_length (first_block bs) ≤ 16387) =
      fits 3 16387 (record_length (first_block bs)) (and_left _ _ (and_right _ _ t)) in
      omega arith

  run_part : (i : ℕ) → i < parts (record_length (first_block bs))
      → is_part (record_number (first_block bs)) (record_length (first_block bs)) (0 + i) (get_or bs i []) ≡ true
  unfolding starts run
  run_part i h =
      parts_at (record_number (first_block bs)) (record_length (first_block bs)) 0 (parts (record_length (first_block bs))) bs
      (and_left _ _ (and_right _ _ (and_right _ _ t))) i h

  pub run_sound : (i : ℕ) → i < parts (record_length (first_block bs)) → sound (get_or bs i []) ≡ true
  run_sound i h = part_sound _ _ _ _ (run_part i h)

  pub run_places : (i : ℕ) → i < parts (record_length (first_block bs)) → part_of (get_or bs i []) ≡ i
  run_places i h = part_part _ _ _ _ (run_part i h) ∙ omega arith

-- past a record
pub past_record : (at : ℕ) (bs : List (List ℕ)) → starts bs ≡ true
    → reading 0 at bs ≡ event_if true at bs ∷ reading 0 (at + parts (record_length (first_block bs))) (drop (parts (record_length (first_block bs))) bs)
past_record at [] t = absurd (not-suc-le-zero (some_parts [] t))
past_record at (b ∷ bs) t = rw t (ap (λ (es : List Event). event_if true at (b ∷ bs) ∷ es) (go (parts (record_length b)) (some_parts (b ∷ bs) t)))
  where
    go : (k : ℕ) → 0 < k → reading (pred k) (suc at) bs ≡ reading 0 (at + k) (drop k (b ∷ bs))
    go zero h = absurd (not-suc-le-zero h)
    go (suc k) h = skipped k (suc at) bs ∙ ap (λ (n : ℕ). reading 0 n (drop k bs)) (omega arith)

-- past a lost block
pub past_lost : (at : ℕ) (b : List ℕ) (bs : List (List ℕ)) → starts (b ∷ bs) ≡ false
    → reading 0 at (b ∷ bs) ≡ lost_at at (loss_of b) ∷ reading 0 (suc at) bs
past_lost at b bs f = rw f
