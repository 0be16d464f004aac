-- A record's octets in a lent buffer.
--     front_room, front_none                 octets at the front of a buffer that has so many, and of one that has fewer
--     copied_front                           octets that are copied to the front of a buffer
--     laid_out                               a record's octets on the desk, copied to the front of a buffer
--     event_record, event_none               what stands at a block where a record is found, and where none is
--     start_long, start_cut                  of a record that starts: how many octets, and that the certificate is inside
--     takes_record, takes_none, takes_nothing     a record taken, by what is found
--     taken_event                            where a record stands and there is room, what is said of it and where its octets are
--     one_taking                             S11: any two answers that the contract allows coincide, and so do the buffers
-- Assumes nothing.
use mathlib.Core.Path.{◌≡◌, refl, sym, ap, ap₂, ◌∙◌}
use mathlib.Core.Bool.{true, false}
use mathlib.Core.Logic.{⊎_elim}
use mathlib.Core.List.{List, [], ◌++◌}
use Prim.Native.Nat.{ℕ, ◌+◌, ◌*◌, ◌≤◌, ◌<◌}
use native.Mathlib.Omega.{arith}
use Rattle.std.specs.Prelude.{Result, Ok, Err}
use lib.ListN.{length, take, drop}
use lib.Seq.{length-take-le}
use borrow.Author.Tests.{le-leb, lt-leb}
use Rattle.reader.specs.Runs.{from, first_block, data_from, run, starts, record_from}
use Rattle.reader.specs.Events.{Event, record_at, lost_at, loss_of}
use Rattle.reader.specs.Finding.{found_at}
use Rattle.reader.specs.Stepping.{event_at}
use Rattle.reader.specs.Taking.{in_front_of, layout_of, taken_of, buffer_taken, TakenRecord}
use Rattle.reader.specs.Workings.Desk.{LaidOut}
use Rattle.reader.specs.declared.taking.Layout.{Layout}
use Rattle.reader.specs.declared.taking.NotTaken.{NotTaken}
use Rattle.reader.specs.declared.taking.NotTaken.TheVariants.{NoRoom, NoRecord}
use Rattle.octets.specs.Numbers.{pair_at}
use Rattle.octets.specs.Copying.{copied}
use Rattle.octets.proofs.Laws.Copying.{copied_paste}
use Rattle.blocks.specs.Tests.{◌and◌}
use Rattle.blocks.specs.Record.{parts, certificate_length}
use Rattle.blocks.proofs.Laws.Logic.{true_or_false, below_or_not}
use Rattle.reader.proofs.Laws.Places.{from_nil}
use Rattle.reader.proofs.Laws.Found.{Start, found_record}
use Rattle.reader.proofs.Laws.Stepping.{cut_on_desk}
use Rattle.reader.proofs.Laws.Passing.{record_long}
use Rattle.reader.specs.declared.finding.Found.TheVariants as Founds

module _ (p buffer : List ℕ) where
  pub front_room : length p ≤ length buffer → in_front_of p buffer ≡ p ++ drop (length p) buffer
  unfolding in_front_of
  front_room h = rw (le-leb _ _ h)

  pub front_none : length buffer < length p → in_front_of p buffer ≡ buffer
  unfolding in_front_of
  front_none h = rw (lt-leb _ _ h)

pub copied_front : (s : List ℕ) (at n : ℕ) (buffer : List ℕ) → at + n ≤ length s → n ≤ length buffer
    → copied s at n buffer 0 ≡ take n (drop at s) ++ drop n buffer
copied_front s at n buffer h k =
    let zero_more : 0 + n ≡ n = omega arith in
    copied_paste s at n buffer 0 h (omega arith) ∙ ap (λ (m : ℕ). take n (drop at s) ++ drop m buffer) zero_more

module _ (desk : List ℕ) (n number c : ℕ) (p buffer last : List ℕ) where
  pub laid_out : p ≡ take n desk → n ≤ length desk → 3 ≤ n → n ≤ length buffer → c ≡ pair_at desk 1 → last ≡ copied desk 0 n buffer 0
      → LaidOut number p buffer (record { number = number; length = n; certificate = c }) last
  laid_out e enough least room f copy =
      let long : n ≡ length p = sym (ap length e ∙ length-take-le n desk enough) in
      record {
        told =
            ap₂ (λ (a b : ℕ). record { number = number; length = a; certificate = b }) long
            (f ∙ sym (cut_on_desk desk n least) ∙ ap (λ (l : List ℕ). pair_at l 1) (sym e));
        bytes =
            copy ∙ copied_front desk 0 n buffer (omega arith) room
            ∙ ap₂ (λ (l : List ℕ) (m : ℕ). l ++ drop m buffer) (sym e) long;
      }

-- ---- what stands at a block

nothing_starts : starts [] ≡ false
unfolding starts run ◌and◌
nothing_starts = refl

module _ (d : List ℕ) (i : ℕ) where
  unstarted : ((number n : ℕ) → found_at d i ≡ Founds.Record number n → ⊥) → starts (from d i) ≡ false
  unstarted h =
      ⊎_elim
      (λ (k : 512 * i < length d).
      ⊎_elim (λ (t : starts (from d i) ≡ true). absurd (h _ _ (found_record d i k t))) (λ f. f) (true_or_false (starts (from d i))))
      (λ (k : length d ≤ 512 * i). ap starts (from_nil d i k) ∙ nothing_starts)
      (below_or_not (512 * i) (length d))

  pub event_record : (number n : ℕ) → Start d i number n → event_at d i ≡ record_at i number (record_from (from d i))
  event_record number n start = rw (start.begins, ← start.number_is)

  pub event_none : ((number n : ℕ) → found_at d i ≡ Founds.Record number n → ⊥) → event_at d i ≡ lost_at i (loss_of (first_block (from d i)))
  event_none h = rw (unstarted h)

-- its octets are as many as was found, and the certificate is inside
module _ (d : List ℕ) (i number n : ℕ) (start : Start d i number n) where
  pub start_long : length (record_from (from d i)) ≡ n
  start_long = record_long d i start.inside start.begins ∙ sym start.length_is

  pub start_cut : 3 + certificate_length (record_from (from d i)) ≤ n
  unfolding record_from
  start_cut =
      let same : certificate_length (record_from (from d i)) ≡ certificate_length (data_from (parts n) (from d i)) =
      rw (← start.length_is) (cut_on_desk (data_from (parts n) (from d i)) n start.least) in
      omega (arith, start.least, start.fitted)

-- ---- by what is found

module _ (d : List ℕ) (i : ℕ) (buffer : List ℕ) where
  by_event : (e : Event) → event_at d i ≡ e → (r : Result Layout NotTaken) (last : List ℕ) → r ≡ taken_of (length buffer) e → last ≡ buffer_taken buffer e
      → TakenRecord d i buffer r last
  by_event e h r last f g = record { told = rw h f; bytes = rw h g }

  module _ (number n : ℕ) (start : Start d i number n) where
    abbrev p : List ℕ
    p = record_from (from d i)

    pub takes_record : n ≤ length buffer → (r : Layout) (last : List ℕ) → LaidOut number p buffer r last → TakenRecord d i buffer (Ok r) last
    takes_record h r last l =
        let room : length p ≤ length buffer = omega (arith, start_long d i number n start) in
        by_event _ (event_record d i number n start) _ _ (rw (le-leb _ _ room) (ap Ok l.told)) (l.bytes ∙ sym (front_room p buffer room))

    pub takes_none : length buffer < n → TakenRecord d i buffer (Err NoRoom) buffer
    takes_none h =
        let room : length buffer < length p = omega (arith, start_long d i number n start) in
        by_event _ (event_record d i number n start) _ _ (rw (lt-leb _ _ room)) (sym (front_none p buffer room))

  pub takes_nothing : ((number n : ℕ) → found_at d i ≡ Founds.Record number n → ⊥) → TakenRecord d i buffer (Err NoRecord) buffer
  takes_nothing h = by_event _ (event_none d i h) _ _ refl refl

  pub taken_event : (number : ℕ) (p : List ℕ) → event_at d i ≡ record_at i number p → length p ≤ length buffer → (r : Result Layout NotTaken) (last : List ℕ)
      → TakenRecord d i buffer r last → (r ≡ Ok (layout_of number p)) × (last ≡ p ++ drop (length p) buffer)
  taken_event number p e room r last t = (
    t.told ∙ ap (λ (event : Event). taken_of (length buffer) event) e ∙ rw (le-leb _ _ room),
    t.bytes ∙ ap (λ (event : Event). buffer_taken buffer event) e ∙ front_room p buffer room,
  )

  -- ---- S11

  pub one_taking : (r s : Result Layout NotTaken) (last other : List ℕ) → TakenRecord d i buffer r last → TakenRecord d i buffer s other → (r ≡ s) × (last ≡ other)
  one_taking r s last other h k = (h.told ∙ sym k.told, h.bytes ∙ sym k.bytes)
