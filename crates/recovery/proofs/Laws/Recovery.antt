-- Demand 3 of blocks: the events of a deck of our own writer some of whose blocks were spoiled, record by record.
--     Spoilt, ended, kept, spoilt     a list of blocks, and each as it was or failing its check
--     spoilt_length                   as many blocks
--     expected_events                  what is expected, as events
--     whole_record                    a record none of whose blocks was spoiled is handed out, whatever follows it
--     blocks_sound, unspoiled         the writer's blocks are sound; so, spoiled or not, they are all sound exactly if they are as they were
--     recovery                        the events are those expected
-- Assumes nothing.
use mathlib.Core.Path.{◌≡◌, refl, sym, ap, ◌∙◌}
use mathlib.Core.Bool.{Bool, true, false, false≢true}
use mathlib.Core.Logic.{◌≢◌, ◌⊎◌, ◌↔◌, inl, inr, ⊎_elim}
use mathlib.Core.List.{List, [], ◌∷◌, ◌++◌}
use Prim.Native.Nat.{ℕ, zero, suc, ◌+◌, ◌*◌, ◌^◌, ◌≤◌, ◌<◌}
use native.Mathlib.Omega.{arith}
use lib.ListN.{length, get_or, take, drop, take-append-drop}
use lib.Seq.{drop_at, length-take-le}
use Rattle.blocks.specs.Block.{sound, record_length, part_of, block_of}
use Rattle.blocks.specs.Record.{parts}
use Rattle.blocks.proofs.Laws.Logic.{and_both, and_left, and_right, not-true, true_or_false}
use Rattle.blocks.proofs.Laws.Block.{block_len, block_part}
use Rattle.writer.specs.Cutting.{zero_filled, blocks_from, blocks_of}
use Rattle.writer.proofs.Laws.Cutting.{from_count, filled_length, blocks_count}
use Rattle.reader.specs.Runs.{starts}
use Rattle.reader.specs.Events.{Event, record_at, lost_at, loss_of, reading}
use Rattle.reader.proofs.Laws.Steps.{some_parts, run_sound, run_places, past_record, past_lost}
use Rattle.recovery.specs.Submitted.{Submitted, submitted_octets, written}
use Rattle.recovery.specs.Spoiling.{all_sound}
use Rattle.recovery.specs.Expected.{extent}
use Rattle.recovery.proofs.Laws.Taken.{Proper, AllProper}
use Rattle.recovery.proofs.Laws.Written.{first_number, first_length, blocks_start, blocks_record}

-- ---- what is expected, as events

abbrev pub lost_events : ℕ → List (List ℕ) → List Event
lost_events position [] = []
lost_events position (b ∷ bs) = lost_at position (loss_of b) ∷ lost_events (suc position) bs

abbrev pub fate_events : Bool → ℕ → ℕ → List ℕ → List (List ℕ) → List Event
fate_events true position number p bs = record_at position number p ∷ []
fate_events false position number p bs = lost_events position bs

abbrev pub expected_events : ℕ → ℕ → List Submitted → List (List ℕ) → List Event
expected_events position number [] bs = []
expected_events position number (s ∷ ss) bs =
    fate_events (all_sound (take (extent s) bs)) position number (submitted_octets s) (take (extent s) bs)
    ++ expected_events (position + extent s) (suc number) ss (drop (extent s) bs)

-- ---- blocks, spoiled

pub data Spoilt : List (List ℕ) → List (List ℕ) → Type 0 where
  ended : Spoilt [] []
  kept : {b : List ℕ} {bs cs : List (List ℕ)} → Spoilt bs cs → Spoilt (b ∷ bs) (b ∷ cs)
  spoilt : {b c : List ℕ} {bs cs : List (List ℕ)} → sound c ≡ false → Spoilt bs cs → Spoilt (b ∷ bs) (c ∷ cs)

pub spoilt_length : {bs cs : List (List ℕ)} → Spoilt bs cs → length cs ≡ length bs
spoilt_length ended = refl
spoilt_length (kept s) = ap suc (spoilt_length s)
spoilt_length (spoilt f s) = ap suc (spoilt_length s)

-- those of one record, and those after them
spoilt_split : (xs ys cs : List (List ℕ)) → Spoilt (xs ++ ys) cs → Spoilt xs (take (length xs) cs) × Spoilt ys (drop (length xs) cs)
spoilt_split [] ys cs s = (ended, s)
spoilt_split (x ∷ xs) ys cs (kept {cs = cs'} s) = let r = spoilt_split xs ys cs' s in (kept r.0, r.1)
spoilt_split (x ∷ xs) ys cs (spoilt {cs = cs'} f s) = let r = spoilt_split xs ys cs' s in (spoilt f r.0, r.1)

-- blocks that are all sound are as they were
all_kept : {bs cs : List (List ℕ)} → Spoilt bs cs → all_sound cs ≡ true → cs ≡ bs
all_kept ended t = refl
all_kept (kept {b = b} s) t = ap (λ (l : List (List ℕ)). b ∷ l) (all_kept s (and_right _ _ t))
all_kept (spoilt f s) t = absurd (false≢true (sym f ∙ and_left _ _ t))

all_sound_lem : (cs rest : List (List ℕ)) → ((i : ℕ) → i < length cs → sound (get_or (cs ++ rest) i []) ≡ true) → all_sound cs ≡ true
all_sound_lem [] rest h = refl
all_sound_lem (c ∷ cs) rest h = and_both (h 0 (omega arith)) (all_sound_lem cs rest (λ i l. h (suc i) (omega arith)))

-- ---- blocks at which no run starts, whatever follows them: unsound, or a later part

abbrev Dud : List ℕ → Type 0
Dud b = (sound b ≡ false) ⊎ (part_of b ≢ 0)

abbrev AllDud : List (List ℕ) → Type 0
AllDud [] = Unit {0}
AllDud (b ∷ bs) = Dud b × AllDud bs

dud_not_start : (b : List ℕ) (bs : List (List ℕ)) → Dud b → starts (b ∷ bs) ≡ false
dud_not_start b bs u =
    not-true (λ t.
    ⊎_elim (λ (f : sound b ≡ false). false≢true (sym f ∙ run_sound (b ∷ bs) t 0 (some_parts (b ∷ bs) t)))
    (λ (ne : part_of b ≢ 0). ne (run_places (b ∷ bs) t 0 (some_parts (b ∷ bs) t))) u)

duds_lost : (at : ℕ) (cs rest : List (List ℕ)) → AllDud cs → reading 0 at (cs ++ rest) ≡ lost_events at cs ++ reading 0 (at + length cs) rest
duds_lost at [] rest u = ap (λ (n : ℕ). reading 0 n rest) (omega arith)
duds_lost at (c ∷ cs) rest u =
    past_lost at c (cs ++ rest) (dud_not_start c (cs ++ rest) u.0)
    ∙ ap (λ (es : List Event). lost_at at (loss_of c) ∷ es)
    (duds_lost (suc at) cs rest u.1 ∙ ap (λ (n : ℕ). lost_events (suc at) cs ++ reading 0 n rest) (omega arith))

-- ---- a record one of whose blocks was spoiled

module _ (number n : ℕ) where
  later_duds : (k j : ℕ) (content : List ℕ) (cs : List (List ℕ)) → Spoilt (blocks_from number n (suc j) k content) cs → AllDud cs
  later_duds zero j content cs ended = tt
  later_duds (suc k) j content cs (kept {cs = cs'} s) =
      (inr (λ e. omega (arith, block_part number n (suc j) (take 502 content))), later_duds k (suc j) (drop 502 content) cs' s)
  later_duds (suc k) j content cs (spoilt {cs = cs'} f s) = (inl f, later_duds k (suc j) (drop 502 content) cs' s)

  later_lost : (at k : ℕ) (content : List ℕ) (cs rest : List (List ℕ)) → Spoilt (blocks_from number n 1 k content) cs
      → reading 0 (suc at) (cs ++ rest) ≡ lost_events (suc at) cs ++ reading 0 (at + suc k) rest
  later_lost at k content cs rest s =
      duds_lost (suc at) cs rest (later_duds k 0 content cs s)
      ∙ ap (λ (m : ℕ). lost_events (suc at) cs ++ reading 0 m rest) (omega (arith, spoilt_length s, from_count number n k 1 content))

  record_lost : (hnumber : number < 2 ^ 32) (hn : n < 65536) (at k : ℕ) (content : List ℕ) (cs rest : List (List ℕ))
      → parts n ≡ suc k → length content ≡ suc k * 502
      → Spoilt (blocks_from number n 0 (suc k) content) cs → all_sound cs ≡ false
      → reading 0 at (cs ++ rest) ≡ lost_events at cs ++ reading 0 (at + suc k) rest
  record_lost hnumber hn at k content cs rest hk hd (kept {cs = cs'} s) f =
      let b : List ℕ = block_of number n 0 (take 502 content) in
      let long : length cs' ≡ k = spoilt_length s ∙ from_count number n k 1 (drop 502 content) in
      let len : record_length b ≡ n = block_len number n 0 (take 502 content) hnumber hn (length-take-le 502 content (omega arith)) in
      past_lost at b (cs' ++ rest)
      (not-true (λ t. false≢true (sym f ∙ all_sound_lem (b ∷ cs') rest (λ i l. run_sound (b ∷ (cs' ++ rest)) t i (rw (len, hk) (omega arith))))))
      ∙ ap (λ (es : List Event). lost_at at (loss_of b) ∷ es) (later_lost at k (drop 502 content) cs' rest s)
  record_lost hnumber hn at k content cs rest hk hd (spoilt {c = c} {cs = cs'} u s) f =
      past_lost at c (cs' ++ rest) (dud_not_start c (cs' ++ rest) (inl u))
      ∙ ap (λ (es : List Event). lost_at at (loss_of c) ∷ es) (later_lost at k (drop 502 content) cs' rest s)

-- ---- one record

module _ (number : ℕ) (p : List ℕ) (h₀ : 0 < number) (hnumber : number < 2 ^ 32) (ok : Proper p) where
  pub whole_record : (at : ℕ) (rest : List (List ℕ))
      → reading 0 at (blocks_of number p ++ rest) ≡ record_at at number p ∷ reading 0 (at + parts (length p)) rest
  whole_record at rest =
      past_record at (blocks_of number p ++ rest) (blocks_start p ok number h₀ hnumber rest)
      ∙ rw (
        first_number p ok number h₀ hnumber rest,
        first_length p ok number h₀ hnumber rest,
        blocks_record p ok number h₀ hnumber rest,
        drop_at (blocks_of number p) rest (parts (length p)) (blocks_count p number),
      )

  pub blocks_sound : all_sound (blocks_of number p) ≡ true
  blocks_sound =
      all_sound_lem (blocks_of number p) [] (λ i l.
      run_sound (blocks_of number p ++ []) (blocks_start p ok number h₀ hnumber []) i
      (rw (first_length p ok number h₀ hnumber []) (omega (arith, blocks_count p number))))

  pub unspoiled : (cs : List (List ℕ)) → Spoilt (blocks_of number p) cs → (all_sound cs ≡ true) ↔ (cs ≡ blocks_of number p)
  unspoiled cs s = (all_kept s, λ e. rw e blocks_sound)

  broken : (at k : ℕ) (cs rest : List (List ℕ)) → parts (length p) ≡ k → Spoilt (blocks_from number (length p) 0 k (zero_filled p)) cs → all_sound cs ≡ false
      → reading 0 at (cs ++ rest) ≡ lost_events at cs ++ reading 0 (at + k) rest
  broken at zero cs rest hk s f = absurd (omega (arith, ok.least))
  broken at (suc k) cs rest hk s f =
      record_lost number (length p) hnumber (omega (arith, ok.most)) at k (zero_filled p) cs rest hk
      (filled_length p ∙ ap (λ (m : ℕ). m * 502) hk) s f

  one_record : (at : ℕ) (cs rest : List (List ℕ)) → Spoilt (blocks_of number p) cs
      → reading 0 at (cs ++ rest) ≡ fate_events (all_sound cs) at number p cs ++ reading 0 (at + parts (length p)) rest
  unfolding blocks_of
  one_record at cs rest s =
      ⊎_elim
      (λ (t : all_sound cs ≡ true). rw (t, all_kept s t) (whole_record at rest))
      (λ (f : all_sound cs ≡ false). rw f (broken at (parts (length p)) cs rest refl s f))
      (true_or_false (all_sound cs))

-- ---- all of them

pub recovery : (ss : List Submitted) (number at : ℕ) (cs : List (List ℕ)) → 0 < number → number + length ss ≤ 2 ^ 32 → AllProper ss
    → Spoilt (written number ss) cs → reading 0 at cs ≡ expected_events at number ss cs
recovery [] number at cs h₀ hnumber ok ended = refl
recovery (s ∷ ss) number at cs h₀ hnumber ok spoiled =
    let p : List ℕ = submitted_octets s in
    let k : ℕ = parts (length p) in
    let below : number < 2 ^ 32 = omega arith in
    let both : Spoilt (blocks_of number p) (take k cs) × Spoilt (written (suc number) ss) (drop k cs) =
    rw (blocks_count p number) at (spoilt_split (blocks_of number p) (written (suc number) ss) cs spoiled) in
    ap (λ (l : List (List ℕ)). reading 0 at l) (sym (take-append-drop k cs))
    ∙ one_record number p h₀ below ok.0 at (take k cs) (drop k cs) both.0
    ∙ ap (λ (es : List Event). fate_events (all_sound (take k cs)) at number p (take k cs) ++ es)
    (recovery ss (suc number) (at + k) (drop k cs) (omega arith) (omega arith) ok.1 both.1)
