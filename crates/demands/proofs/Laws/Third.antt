-- Demand 3, proved: `demand_3`. Assumes nothing.
use mathlib.Core.List.{List, [], ◌∷◌, ◌++◌}
use mathlib.Core.Logic.{⊎_elim}
use mathlib.Core.Path.{◌≡◌, refl, sym, ap, ap₂, subst, ◌∙◌}
use Prim.Native.Nat.{ℕ, zero, suc, ◌+◌, ◌*◌, ◌^◌, ◌≤◌, ◌<◌}
use native.Mathlib.Omega.{arith}
use lib.ListN.{length, take}
use Rattle.demands.specs.Third.{WrittenDeck, no_record, a_record, ReadThrough, at_end, an_item, is_record, is_lost, how_many, listed, Recovered, Demand3}
use Rattle.blocks.proofs.Laws.Check.{changed_fails, exchanged_fails, zeros_fail, ones_fail}
use Rattle.blocks.proofs.Laws.Logic.{below_or_not}
use Rattle.writer.specs.Cutting.{blocks_of, end_to_end}
use Rattle.writer.proofs.Laws.Answers.{taken_only}
use Rattle.writer.proofs.Laws.Cutting.{end_to_end_append}
use Rattle.writer.proofs.Laws.Statements.{rest_kept}
use Rattle.reader.specs.Runs.{blocks}
use Rattle.reader.specs.Events.{Event, record_at, lost_at, events, events_from}
use Rattle.reader.specs.Stepping.{item_blocks, item_at, room_at}
use Rattle.reader.specs.Counting.{records_in, lost_in, tally_of}
use Rattle.reader.specs.Walking.{Handed, handed_at, all_handed_over}
use Rattle.reader.specs.declared.stepping.Item.{Item}
use Rattle.reader.proofs.Laws.Places.{from_nil}
use Rattle.reader.proofs.Laws.Passing.{item_moves, item_past}
use Rattle.reader.proofs.Laws.Stepping.{stepped}
use Rattle.reader.proofs.Laws.Walking.{item_ended, room_stays, handed_next, walked}
use Rattle.listing.specs.Lines.{total_line}
use Rattle.listing.specs.Listing.{lines_of, listing_of, program_room}
use Rattle.listing.proofs.Laws.Listing.{room_program, printed_listing}
use Rattle.listing.proofs.Laws.Printing.{writes_printed}
use Rattle.recovery.specs.Submitted.{Submitted, submitted_octets, AllWritable, written}
use Rattle.recovery.specs.Spoiling.{Spoiled}
use Rattle.recovery.specs.Expected.{expected}
use Rattle.recovery.proofs.Laws.Statement.{recovers, each_once}

-- ---- the deck

deck_written : {number : ℕ} {ss : List Submitted} {was : List ℕ} → WrittenDeck number ss was → number + length ss ≤ 2 ^ 32
    → AllWritable ss × (was ≡ end_to_end (written number ss))
deck_written no_record small = (tt, refl)
deck_written {number} (a_record {s = s} {ss = ss} {deck = deck} room last r count w e later) small =
    let told = sym w.told ∙ e in
    let t = taken_only number s.profile s.certificate s.issuer room count told in
    let front : take (512 * count) last ≡ end_to_end (blocks_of number (submitted_octets s)) =
    ap (λ (l : List ℕ). take (512 * count) l) w.bytes
    ∙ (rest_kept number s.profile s.certificate s.issuer room count (omega arith) told).front in
    let others = deck_written later (omega arith) in (
      (record { for = t.for; admitted = t.admitted }, others.0),
      ap₂ (λ (a b : List ℕ). a ++ b) front others.1 ∙ sym (end_to_end_append (blocks_of number (submitted_octets s)) (written (suc number) ss)),
    )

-- ---- reading

read_handed : {deck : List ℕ} {position : ℕ} {room : List ℕ} {hs : List Handed} → ReadThrough deck position room hs
    → (other : List ℕ) → length room ≡ length other → hs ≡ all_handed_over other (events_from deck position)
read_handed {deck} {position} {room} (at_end r last s e) other h =
    let past = item_past deck position room (ap item_blocks (sym s.told ∙ e)) in
    rw (from_nil deck position past)
read_handed {deck} {position} {room} (an_item r last s some later) other h =
    let inside : 512 * position < length deck =
    ⊎_elim
    (λ (k : 512 * position < length deck). k)
    (λ (k : length deck ≤ 512 * position). absurd (some (s.told ∙ item_ended deck position room k)))
    (below_or_not (512 * position) (length deck)) in
    let stays : length last ≡ length other = ap length s.bytes ∙ room_stays deck position room ∙ h in
    ap₂ (λ (x : Handed) (xs : List Handed). x ∷ xs)
    (ap₂ (λ (x : Item) (l : List ℕ). handed_at position x l) s.told s.bytes)
    (read_handed later other stays ∙ ap (λ (x : Item). all_handed_over other (events_from deck (position + item_blocks x))) s.told)
    ∙ sym (handed_next deck other position room h inside)

-- each step goes on by a block at least, so there is an end
goes : (deck : List ℕ) (n position : ℕ) (room : List ℕ) → length deck ≤ 512 * (position + n) → (hs : List Handed) × ReadThrough deck position room hs
goes deck zero position room l =
    ([], at_end (item_at deck position room) (room_at deck position room) (stepped refl refl) (item_ended deck position room (omega (arith, l))))
goes deck (suc n) position room l =
    ⊎_elim
    (λ (k : 512 * position < length deck).
    let moves = item_moves deck position room k in
    let later = goes deck n (position + item_blocks (item_at deck position room)) (room_at deck position room) (omega (arith, l, moves)) in (
      handed_at position (item_at deck position room) (room_at deck position room) ∷ later.0,
      an_item (item_at deck position room) (room_at deck position room) (stepped refl refl) (λ e. omega (arith, moves, ap item_blocks e)) later.1,
    ))
    (λ (k : length deck ≤ 512 * position).
    ([], at_end (item_at deck position room) (room_at deck position room) (stepped refl refl) (item_ended deck position room k)))
    (below_or_not (512 * position) (length deck))

-- ---- counts

module _ (room : List ℕ) where
  records_counted : (es : List Event) → length (records_in es) ≡ how_many is_record (all_handed_over room es)
  records_counted [] = refl
  records_counted (record_at position number p ∷ es) = omega (arith, records_counted es)
  records_counted (lost_at position loss ∷ es) = omega (arith, records_counted es)

  lost_counted : (es : List Event) → length (lost_in es) ≡ how_many is_lost (all_handed_over room es)
  lost_counted [] = refl
  lost_counted (record_at position number p ∷ es) = omega (arith, lost_counted es)
  lost_counted (lost_at position loss ∷ es) = omega (arith, lost_counted es)

listing_listed : (deck room : List ℕ) → listing_of deck room ≡ listed (all_handed_over room (events deck)) (length (blocks deck))
unfolding listing_of tally_of
listing_listed deck room =
    ap₂ (λ (a b : ℕ). lines_of (all_handed_over room (events deck)) ++ total_line (record { records = a; lost = b }) (length (blocks deck)))
    (records_counted room (events deck)) (lost_counted room (events deck))

-- ---- the statement

module _ (ss : List Submitted) (was deck : List ℕ) (small : length ss < 2 ^ 32) (w : WrittenDeck 1 ss was) (s : Spoiled was deck) where
  writable : AllWritable ss
  writable = (deck_written w (omega arith)).0

  spoiled : Spoiled (end_to_end (written 1 ss)) deck
  spoiled = subst (λ (l : List ℕ). Spoiled l deck) (deck_written w (omega arith)).1 s

  handed : (room : List ℕ) → all_handed_over room (events deck) ≡ expected room 0 1 ss (blocks deck)
  handed room =
      sym (walked deck room (length (blocks deck)) (omega arith))
      ∙ recovers ss deck room (length (blocks deck)) small writable spoiled (omega arith)

  recovered : Recovered ss deck
  unfolding events
  recovered =
      record {
        reads = λ room hs r. read_handed r room refl ∙ handed room;
        goes_through = λ room. goes deck (length deck) 0 room (omega arith);
        once = λ room. each_once ss deck room small writable spoiled;
        prints = λ text short r.
            writes_printed deck text r
            ∙ printed_listing deck program_room short room_program
            ∙ listing_listed deck program_room
            ∙ ap (λ (hs : List Handed). listed hs (length (blocks deck))) (handed program_room);
      }

pub demand_3 : Demand3
demand_3 =
    record {
      recovers = recovered;
      changes_show = λ b o t. record { changed = changed_fails b t o; exchanged = exchanged_fails b t o };
      zeros_fail = zeros_fail;
      ones_fail = ones_fail;
    }
