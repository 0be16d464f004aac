-- S9: reading block after block finds exactly what document 01 states with no order of reading, for two runs never overlap.
--     exactly     a record at each block that starts a run, every block in no run lost
-- Assumes nothing.
use mathlib.Core.Path.{◌≡◌, refl, sym, ap, ap₂, ◌∙◌}
use mathlib.Core.Bool.{Bool, true, false, ◌||◌, or-true, false≢true}
use mathlib.Core.Logic.{⊎_elim}
use mathlib.Core.List.{List, [], ◌∷◌}
use Prim.Native.Nat.{ℕ, zero, suc, pred, ◌+◌, ◌-◌, ◌≤◌, ◌<◌}
use native.Mathlib.Nat.{not-suc-le-zero, eq-or-lt_of_le, le_of_suc-le-suc}
use native.Mathlib.Omega.{arith}
use lib.Dec.{ltb}
use lib.ListN.{length, get_or, drop, drop_of_length-le}
use lib.Seq.{drop-cons, get_or-drop}
use borrow.Author.Tests.{lt-ltb, le-ltb}
use Rattle.reader.specs.Runs.{blocks, first_block, starts}
use Rattle.reader.specs.Events.{Event, event_if, more_if, reading, events}
use Rattle.reader.specs.Exactly.{run_length, in_run, marks}
use Rattle.blocks.specs.Tests.{◌and◌}
use Rattle.blocks.specs.Block.{part_of}
use Rattle.blocks.proofs.Laws.Logic.{and_both, and_not_left, and_not_right, not-true, true_or_false}
use Rattle.reader.proofs.Laws.Steps.{some_parts, run_places}

module _ (bs : List (List ℕ)) where
  -- a later block of a run starts none
  no_overlap : (a i : ℕ) → starts (drop a bs) ≡ true → a < i → i < a + run_length bs a → starts (drop i bs) ≡ false
  no_overlap a i t h l =
      not-true (λ u.
      let e₁ : a + (i - a) ≡ i = omega arith in
      let e₂ : i ≡ i + 0 = omega arith in
      let later : part_of (get_or (drop a bs) (i - a) []) ≡ i - a = run_places (drop a bs) t (i - a) (omega arith) in
      let here : part_of (first_block (drop i bs)) ≡ 0 = run_places (drop i bs) u 0 (some_parts (drop i bs) u) in
      let same : get_or (drop a bs) (i - a) [] ≡ first_block (drop i bs) =
      get_or-drop a bs (i - a) [] ∙ ap (λ (m : ℕ). get_or bs m []) (e₁ ∙ e₂) ∙ sym (get_or-drop i bs 0 []) in
      omega (arith, ap part_of same))

  outside : (i a : ℕ) → ((c : ℕ) → c < a → starts (drop c bs) ≡ true → c + run_length bs c ≤ i) → in_run bs i a ≡ false
  outside i zero h = refl
  outside i (suc a) h =
      ap₂ ◌||◌
      (⊎_elim
      (λ (t : starts (drop a bs) ≡ true). and_not_right (starts (drop a bs)) (le-ltb i (a + run_length bs a) (h a (omega arith) t)))
      (λ (f : starts (drop a bs) ≡ false). and_not_left (ltb i (a + run_length bs a)) f)
      (true_or_false (starts (drop a bs))))
      (outside i a (λ c l. h c (omega arith)))

  inside : (i a c : ℕ) → c < a → starts (drop c bs) ≡ true → i < c + run_length bs c → in_run bs i a ≡ true
  inside i zero c h t l = absurd (not-suc-le-zero h)
  inside i (suc a) c h t l =
      ⊎_elim
      (λ (e : c ≡ a).
      let here : (starts (drop a bs) and ltb i (a + run_length bs a)) ≡ true =
      rw e at (and_both t (lt-ltb i (c + run_length bs c) l)) in
      rw here)
      (λ (s : c < a). ap (λ (x : Bool). (starts (drop a bs) and ltb i (a + run_length bs a)) || x) (inside i a c s t l)
      ∙ or-true (starts (drop a bs) and ltb i (a + run_length bs a)))
      (eq-or-lt_of_le (le_of_suc-le-suc h))

  -- the runs that started before i end at i + skip or before, and where skip is not 0 one of them ends there
  abbrev Before : ℕ → ℕ → Type 0
  Before i skip = (a : ℕ) → a < i → starts (drop a bs) ≡ true → a + run_length bs a ≤ i + skip

  Ends : ℕ → ℕ → Type 0
  Ends i skip = (0 < skip) → (a : ℕ) × (a < i) × (starts (drop a bs) ≡ true) × (a + run_length bs a ≡ i + skip)

  extend : (i s s' : ℕ) → i + s ≤ suc i + s' → Before i s → (starts (drop i bs) ≡ true → i + run_length bs i ≤ suc i + s') → Before (suc i) s'
  extend i s s' h all here a l t =
      ⊎_elim
      (λ (e : a ≡ i). rw e (here (rw e at t)))
      (λ (q : a < i). omega (arith, all a q t))
      (eq-or-lt_of_le (le_of_suc-le-suc l))

  read_cons : (i : ℕ) → i < length bs
      → reading 0 i (drop i bs) ≡ event_if (starts (drop i bs)) i (drop i bs) ∷ reading (more_if (starts (drop i bs)) (drop i bs)) (suc i) (drop (suc i) bs)
  read_cons i h = rw (drop-cons bs i [] h)

  skip_cons : (i skip : ℕ) → i < length bs → reading (suc skip) i (drop i bs) ≡ reading skip (suc i) (drop (suc i) bs)
  skip_cons i skip h = rw (drop-cons bs i [] h)

  read_marks : (n i skip : ℕ) → length bs ≡ i + n → Before i skip → Ends i skip → reading skip i (drop i bs) ≡ marks bs i n
  unfolding Ends
  read_marks zero i skip h all one = ap (λ (l : List (List ℕ)). reading skip i l) (drop_of_length-le bs {i = i} (omega arith))
  read_marks (suc n) i zero h all one =
      read_cons i (omega arith)
      ∙ ⊎_elim
      (λ (t : starts (drop i bs) ≡ true).
      let some : 0 < run_length bs i = some_parts (drop i bs) t in
      rw t
      (ap (λ (es : List Event). event_if true i (drop i bs) ∷ es)
      (read_marks n (suc i) (pred (run_length bs i)) (omega arith)
      (extend i 0 (pred (run_length bs i)) (omega arith) all (λ _. omega arith))
      (λ _. (i, omega arith, t, omega arith)))))
      (λ (f : starts (drop i bs) ≡ false).
      rw (f, outside i i (λ c l t. omega (arith, all c l t)))
      (ap (λ (es : List Event). event_if false i (drop i bs) ∷ es)
      (read_marks n (suc i) 0 (omega arith)
      (extend i 0 0 (omega arith) all (λ t. absurd (false≢true (sym f ∙ t))))
      (λ z. absurd (not-suc-le-zero z)))))
      (true_or_false (starts (drop i bs)))
  read_marks (suc n) i (suc skip) h all one =
      let w = one (omega arith) in
      let f : starts (drop i bs) ≡ false = no_overlap w.0 i w.2 w.1 (omega (arith, w.3)) in
      skip_cons i skip (omega arith)
      ∙ rw (f, inside i i w.0 w.1 w.2 (omega (arith, w.3)))
      (read_marks n (suc i) skip (omega arith)
      (extend i (suc skip) skip (omega arith) all (λ t. absurd (false≢true (sym f ∙ t))))
      (λ _. (w.0, omega (arith, w.1), w.2, omega (arith, w.3))))

-- the events of a deck
pub exactly : (d : List ℕ) → events d ≡ marks (blocks d) 0 (length (blocks d))
unfolding events Ends
exactly d =
    read_marks (blocks d) (length (blocks d)) 0 0 (omega arith)
    (λ a l t. absurd (not-suc-le-zero l))
    (λ z. absurd (not-suc-le-zero z))
