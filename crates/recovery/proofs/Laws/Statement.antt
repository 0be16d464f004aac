-- S7: demand 3 (document 00), of what a caller gets who steps through the deck.
--     recovers           exactly the records none of whose blocks was spoiled, in their order, each as the linter answers it alone, and every other block lost
--     none_spoiled       where no block was spoiled, every record
--     each_once          each block belongs to one record that is handed out, or is lost once
-- Assumes nothing.
use mathlib.Core.Path.{◌≡◌, refl, sym, ap, ap₂, subst, ◌∙◌}
use mathlib.Core.Bool.{Bool, true, false}
use mathlib.Core.Logic.{inl}
use mathlib.Core.List.{List, [], ◌∷◌, ◌++◌}
use Prim.Native.Nat.{ℕ, suc, ◌+◌, ◌^◌, ◌≤◌, ◌<◌}
use native.Mathlib.Omega.{arith}
use lib.ListN.{length, take, drop, length-append, length-drop}
use lib.Seq.{take_at, drop_at, length-take-le}
use Rattle.writer.specs.Cutting.{blocks_of, end_to_end}
use Rattle.writer.proofs.Laws.Cutting.{blocks_count}
use Rattle.reader.specs.Runs.{blocks}
use Rattle.reader.specs.Events.{Event, loss_of}
use Rattle.reader.specs.Stepping.{item_blocks}
use Rattle.reader.specs.Walking.{Handed, handed_at, handed_over, all_handed_over}
use Rattle.reader.specs.declared.stepping.Record.{Record}
use Rattle.reader.specs.declared.stepping.Item.TheVariants as Items
use Rattle.reader.proofs.Laws.Walking.{walked}
use Rattle.recovery.specs.Submitted.{Submitted, submitted_octets, Writable, AllWritable, written}
use Rattle.recovery.specs.Spoiling.{Spoiled, all_sound}
use Rattle.recovery.specs.Expected.{all_lost, fate, extent, expected, all_handed_out, OneBehindTheOther}
use Rattle.recovery.specs.Statements.{Recovers, NoneSpoiled, EachOnce}
use Rattle.recovery.proofs.Laws.Taken.{AllProper, all_proper, linted, linted_room_lem}
use Rattle.recovery.proofs.Laws.Recovery.{lost_events, fate_events, expected_events, spoilt_length, blocks_sound}
use Rattle.recovery.proofs.Laws.Decks.{written_blocks, deck_spoilt, deck_events}

-- ---- from events to what is handed out

module _ (room : List ℕ) where
  items_append : (xs ys : List Event) → all_handed_over room (xs ++ ys) ≡ all_handed_over room xs ++ all_handed_over room ys
  items_append [] ys = refl
  items_append (x ∷ xs) ys = ap (λ (later : List Handed). handed_over room x ∷ later) (items_append xs ys)

  items_lost : (position : ℕ) (bs : List (List ℕ)) → all_handed_over room (lost_events position bs) ≡ all_lost position bs
  items_lost position [] = refl
  items_lost position (b ∷ bs) =
      ap (λ (later : List Handed). record { position = position; item = Items.Lost (loss_of b); report = [] } ∷ later) (items_lost (suc position) bs)

  items_fate : (t : Bool) (position number : ℕ) (s : Submitted) (bs : List (List ℕ)) → Writable s
      → all_handed_over room (fate_events t position number (submitted_octets s) bs) ≡ fate t room position number s bs
  items_fate true position number s bs w =
      ap₂ (λ (r : Record) (last : List ℕ). handed_at position (Items.Record r) last ∷ []) (linted s w number room) (linted_room_lem s w room)
  items_fate false position number s bs w = items_lost position bs

  items_expected : (ss : List Submitted) (position number : ℕ) (bs : List (List ℕ)) → AllWritable ss
      → all_handed_over room (expected_events position number ss bs) ≡ expected room position number ss bs
  items_expected [] position number bs w = refl
  items_expected (s ∷ ss) position number bs w =
      items_append
      (fate_events (all_sound (take (extent s) bs)) position number (submitted_octets s) (take (extent s) bs))
      (expected_events (position + extent s) (suc number) ss (drop (extent s) bs))
      ∙ rw (
        items_fate (all_sound (take (extent s) bs)) position number s (take (extent s) bs) w.0,
        items_expected ss (position + extent s) (suc number) (drop (extent s) bs) w.1,
      )

-- ---- no block spoiled

none_fails : (room : List ℕ) (ss : List Submitted) (position number : ℕ) → 0 < number → number + length ss ≤ 2 ^ 32 → AllProper ss
    → expected room position number ss (written number ss) ≡ all_handed_out room position number ss
none_fails room [] position number h₀ small ok = refl
none_fails room (s ∷ ss) position number h₀ small ok =
    let bs : List (List ℕ) = blocks_of number (submitted_octets s) in
    let long : length bs ≡ extent s = blocks_count (submitted_octets s) number in
    rw (
      take_at bs (written (suc number) ss) (extent s) long,
      drop_at bs (written (suc number) ss) (extent s) long,
      blocks_sound number (submitted_octets s) h₀ (omega arith) ok.0,
      none_fails room ss (position + extent s) (suc number) (omega arith) (omega arith) ok.1,
    )

-- ---- each block once

behind_append : (xs ys : List Handed) (start middle end : ℕ) → OneBehindTheOther start xs middle → OneBehindTheOther middle ys end
    → OneBehindTheOther start (xs ++ ys) end
behind_append [] ys start middle end h k = subst (λ (m : ℕ). OneBehindTheOther m ys end) (sym h) k
behind_append (x ∷ xs) ys start middle end h k = (h.0, behind_append xs ys (start + item_blocks x.item) middle end h.1 k)

behind_lost : (position : ℕ) (bs : List (List ℕ)) → OneBehindTheOther position (all_lost position bs) (position + length bs)
behind_lost position [] = omega arith
behind_lost position (b ∷ bs) =
    let e : suc position + length bs ≡ position + suc (length bs) = omega arith in
    let f : suc position ≡ position + 1 = omega arith in (
      refl,
      subst (λ (m : ℕ). OneBehindTheOther m (all_lost (suc position) bs) (position + suc (length bs))) f
          (subst (λ (m : ℕ). OneBehindTheOther (suc position) (all_lost (suc position) bs) m) e (behind_lost (suc position) bs)),
    )

behind_fate : (t : Bool) (room : List ℕ) (position number : ℕ) (s : Submitted) (bs : List (List ℕ)) → length bs ≡ extent s
    → OneBehindTheOther position (fate t room position number s bs) (position + extent s)
behind_fate true room position number s bs h = (refl, refl)
behind_fate false room position number s bs h = subst (λ (k : ℕ). OneBehindTheOther position (all_lost position bs) (position + k)) h (behind_lost position bs)

behind_expected : (room : List ℕ) (ss : List Submitted) (position number : ℕ) (cs : List (List ℕ)) → AllProper ss → length cs ≡ length (written number ss)
    → OneBehindTheOther position (expected room position number ss cs) (position + length cs)
behind_expected room [] position number cs ok h = omega arith
behind_expected room (s ∷ ss) position number cs ok h =
    let k : ℕ = extent s in
    let long : length cs ≡ k + length (written (suc number) ss) =
    h ∙ length-append (blocks_of number (submitted_octets s)) (written (suc number) ss)
    ∙ ap (λ (m : ℕ). m + length (written (suc number) ss)) (blocks_count (submitted_octets s) number) in
    let rest : length (drop k cs) ≡ length (written (suc number) ss) = rw length-drop (omega arith) in
    let e : position + k + length (drop k cs) ≡ position + length cs = omega arith in
    behind_append
    (fate (all_sound (take k cs)) room position number s (take k cs))
    (expected room (position + k) (suc number) ss (drop k cs))
    position (position + k) (position + length cs)
    (behind_fate (all_sound (take k cs)) room position number s (take k cs) (length-take-le k cs (omega arith)))
    (subst (λ (m : ℕ). OneBehindTheOther (position + k) (expected room (position + k) (suc number) ss (drop k cs)) m) e
    (behind_expected room ss (position + k) (suc number) (drop k cs) ok.1 rest))

pub each_once : (ss : List Submitted) → EachOnce ss
each_once ss deck room small w s =
    let ok : AllProper ss = all_proper ss w in
    let e : 0 + length (blocks deck) ≡ length (blocks deck) = omega arith in
    subst (λ (m : ℕ). OneBehindTheOther 0 (expected room 0 1 ss (blocks deck)) m) e
    (behind_expected room ss 0 1 (blocks deck) ok (spoilt_length (deck_spoilt ss small ok deck s)))

-- ---- the walk through the deck

pub recovers : (ss : List Submitted) → Recovers ss
recovers ss deck room steps small w s enough =
    walked deck room steps enough
    ∙ ap (λ (es : List Event). all_handed_over room es) (deck_events ss small (all_proper ss w) deck s)
    ∙ items_expected room ss 0 1 (blocks deck) w

pub none_spoiled : (ss : List Submitted) → NoneSpoiled ss
none_spoiled ss room steps small w enough =
    let deck : List ℕ = end_to_end (written 1 ss) in
    let ok : AllProper ss = all_proper ss w in
    let same : Spoiled deck deck = record { as_long = refl; each = λ position. inl refl } in
    recovers ss deck room steps small w same (rw (written_blocks ss small ok) enough)
    ∙ ap (λ (bs : List (List ℕ)). expected room 0 1 ss bs) (written_blocks ss small ok)
    ∙ none_fails room ss 0 1 (omega arith) (omega arith) ok
