-- From the octets of a deck to its blocks.
--     end_to_end_blocks                the blocks of whole blocks one behind the other, before other octets
--     past_whole                       the blocks behind whole blocks
--     written_long, written_blocks     the writer's blocks have 512 octets, and are the blocks of the deck that they make
--     blocks_spoilt, deck_spoilt       the blocks of a spoiled deck are those it had, spoiled
--     deck_events                      the events of a spoiled deck are those expected
-- Assumes nothing.
use mathlib.Core.Path.{◌≡◌, sym, ap, ap₂, ◌∙◌}
use mathlib.Core.Bool.{false}
use mathlib.Core.Logic.{◌⊎◌, ⊎_elim}
use mathlib.Core.List.{List, [], ◌∷◌, ◌++◌, append-nil, append_assoc}
use Prim.Native.Nat.{ℕ, zero, suc, ◌+◌, ◌*◌, ◌/◌, ◌^◌, ◌≤◌, ◌<◌}
use native.Mathlib.Omega.{arith}
use lib.ListN.{length, take, drop, length-append}
use lib.Seq.{take_at, drop_at, drop-drop}
use Rattle.blocks.specs.Block.{sound}
use Rattle.writer.specs.Cutting.{blocks_of, end_to_end}
use Rattle.writer.proofs.Laws.Cutting.{AllLong, end_to_end_length, blocks_long}
use Rattle.reader.specs.Runs.{cut, blocks, block_at}
use Rattle.reader.specs.Events.{events}
use Rattle.reader.proofs.Laws.Places.{next_block}
use Rattle.recovery.specs.Submitted.{Submitted, submitted_octets, written}
use Rattle.recovery.specs.Spoiling.{Spoiled}
use Rattle.recovery.proofs.Laws.Taken.{AllProper}
use Rattle.recovery.proofs.Laws.Recovery.{Spoilt, ended, kept, spoilt, expected_events, recovery}

-- ---- whole blocks

long_append : (xs ys : List (List ℕ)) → AllLong xs → AllLong ys → AllLong (xs ++ ys)
long_append [] ys hx hy = hy
long_append (x ∷ xs) ys hx hy = (hx.0, long_append xs ys hx.1 hy)

cut_joined : (bs : List (List ℕ)) (m : ℕ) (d : List ℕ) → AllLong bs → cut (length bs + m) (end_to_end bs ++ d) ≡ bs ++ cut m d
cut_joined [] m d h =
    let e : 0 + m ≡ m = omega arith in
    ap (λ (n : ℕ). cut n d) e
cut_joined (b ∷ bs) m d h =
    let e : suc (length bs) + m ≡ suc (length bs + m) = omega arith in
    ap₂ (λ (n : ℕ) (l : List ℕ). cut n l) e (append_assoc b (end_to_end bs) d)
    ∙ rw (take_at b (end_to_end bs ++ d) 512 h.0, drop_at b (end_to_end bs ++ d) 512 h.0)
    (ap (λ (l : List (List ℕ)). b ∷ l) (cut_joined bs m d h.1))

pub end_to_end_blocks : (bs : List (List ℕ)) (d : List ℕ) → AllLong bs → blocks (end_to_end bs ++ d) ≡ bs ++ blocks d
unfolding blocks
end_to_end_blocks bs d h =
    let e : (length (end_to_end bs ++ d) + 511) / 512 ≡ length bs + (length d + 511) / 512 =
    omega (arith, length-append (end_to_end bs) d, end_to_end_length bs h) in
    ap (λ (n : ℕ). cut n (end_to_end bs ++ d)) e ∙ cut_joined bs ((length d + 511) / 512) d h

cut_past : (k m : ℕ) (d : List ℕ) → drop k (cut (k + m) d) ≡ cut m (drop (512 * k) d)
cut_past zero m d =
    let e : 0 + m ≡ m = omega arith in
    ap (λ (n : ℕ). cut n d) e
cut_past (suc k) m d =
    let e : suc k + m ≡ suc (k + m) = omega arith in
    let f : 512 + 512 * k ≡ 512 * suc k = omega arith in
    ap (λ (n : ℕ). drop (suc k) (cut n d)) e
    ∙ cut_past k m (drop 512 d)
    ∙ ap (λ (l : List ℕ). cut m l) (drop-drop (512 * k) 512 d ∙ ap (λ (n : ℕ). drop n d) f)

pub past_whole : (before d : List ℕ) (position : ℕ) → length before ≡ 512 * position → drop position (blocks (before ++ d)) ≡ blocks d
unfolding blocks
past_whole before d position h =
    let e : (length (before ++ d) + 511) / 512 ≡ position + (length d + 511) / 512 = omega (arith, length-append before d) in
    ap (λ (n : ℕ). drop position (cut n (before ++ d))) e
    ∙ cut_past position ((length d + 511) / 512) (before ++ d)
    ∙ ap (λ (l : List ℕ). cut ((length d + 511) / 512) l) (drop_at before d (512 * position) h)

-- ---- the writer's blocks

pub written_long : (number : ℕ) (ss : List Submitted) → number + length ss ≤ 2 ^ 32 → AllProper ss → AllLong (written number ss)
written_long number [] hnumber ok = tt
written_long number (s ∷ ss) hnumber ok =
    long_append (blocks_of number (submitted_octets s)) (written (suc number) ss)
    (blocks_long (submitted_octets s) number (omega arith) (omega (arith, ok.0.most)))
    (written_long (suc number) ss (omega arith) ok.1)

-- ---- decks, spoiled

cut_spoilt : (n : ℕ) (d e : List ℕ) → ((i : ℕ) → (block_at e i ≡ block_at d i) ⊎ (sound (block_at e i) ≡ false)) → Spoilt (cut n d) (cut n e)
cut_spoilt zero d e each = ended
cut_spoilt (suc n) d e each =
    let later : Spoilt (cut n (drop 512 d)) (cut n (drop 512 e)) =
    cut_spoilt n (drop 512 d) (drop 512 e) (λ i. rw (next_block d i, next_block e i) (each (suc i))) in
    ⊎_elim
    (λ (q : take 512 e ≡ take 512 d). rw q (kept later))
    (λ (f : sound (take 512 e) ≡ false). spoilt f later)
    (each 0)

pub blocks_spoilt : (was deck : List ℕ) → Spoiled was deck → Spoilt (blocks was) (blocks deck)
unfolding blocks
blocks_spoilt was deck s = rw s.as_long (cut_spoilt ((length was + 511) / 512) was deck s.each)

-- what the deck is whose blocks were spoiled, as blocks
module _ (ss : List Submitted) (small : length ss < 2 ^ 32) (ok : AllProper ss) where
  pub written_blocks : blocks (end_to_end (written 1 ss)) ≡ written 1 ss
  unfolding blocks
  written_blocks =
      ap blocks (sym (append-nil (end_to_end (written 1 ss))))
      ∙ end_to_end_blocks (written 1 ss) [] (written_long 1 ss (omega arith) ok)
      ∙ append-nil (written 1 ss)

  pub deck_spoilt : (deck : List ℕ) → Spoiled (end_to_end (written 1 ss)) deck → Spoilt (written 1 ss) (blocks deck)
  deck_spoilt deck s = rw written_blocks at (blocks_spoilt (end_to_end (written 1 ss)) deck s)

  pub deck_events : (deck : List ℕ) → Spoiled (end_to_end (written 1 ss)) deck → events deck ≡ expected_events 0 1 ss (blocks deck)
  unfolding events
  deck_events deck s = recovery ss 1 0 (blocks deck) (omega arith) (omega arith) ok (deck_spoilt deck s)
