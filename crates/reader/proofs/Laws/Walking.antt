-- Stepping through a whole deck, the same room lent again at each step.
--     same_handed         in a room as long an event is handed over the same
--     item_is, room_is    what a step hands out before the deck's end, and what it leaves in the room
--     item_ended, room_ended     past the end it hands out the end, and leaves the room as it was
--     room_stays          a step leaves a room as long as it was
--     handed_next         what is handed over from a position on: what a step hands out there, and the rest
--     walked              it hands out the events of the deck, each as in the room at the start
-- Assumes nothing.
use mathlib.Core.Path.{◌≡◌, refl, sym, ap, ap₂, ◌∙◌}
use mathlib.Core.Bool.{Bool, true, false}
use mathlib.Core.Logic.{⊎_elim}
use mathlib.Core.List.{List, ◌∷◌}
use Prim.Native.Nat.{ℕ, zero, suc, ◌+◌, ◌*◌, ◌≤◌, ◌<◌}
use native.Mathlib.Omega.{arith}
use lib.ListN.{length, drop_of_length-le}
use borrow.Author.Tests.{lt-ltb, le-ltb}
use Rattle.std.specs.Prelude.{Result}
use Rattle.reader.specs.Runs.{blocks, from, starts}
use Rattle.reader.specs.Events.{Event, record_at, lost_at, event_if, reading, events, events_from}
use Rattle.reader.specs.Finding.{found_at, blocks_in}
use Rattle.reader.specs.Stepping.{linted_room, item_of, room_after, item_blocks, event_at, item_at, room_at}
use Rattle.reader.specs.Walking.{Handed, handed_at, unless_end, walk, position_of, handed_over, all_handed_over}
use Rattle.reader.specs.declared.stepping.Item.{Item}
use Rattle.blocks.specs.Record.{profile_in, certificate_octets, issuer_octets}
use Rattle.blocks.proofs.Laws.Logic.{below_or_not}
use Rattle.lint.specs.declared.reasons.Refusal.{Refusal}
use Rattle.lint.proofs.Laws.Rooms.{answer_room, room_long, report_room}
use Rattle.reader.proofs.Laws.Places.{from_nil}
use Rattle.reader.proofs.Laws.Counts.{reads_on}
use Rattle.reader.proofs.Laws.Passing.{item_blocks_lem, item_moves}
use Rattle.reader.specs.declared.stepping.Item.TheVariants as Items

-- ---- an event is handed out

pub same_handed : (room other : List ℕ) → length room ≡ length other → (e : Event) → handed_over room e ≡ handed_over other e
unfolding linted_room
same_handed room other h (record_at position number p) =
    ap₂ (λ (a : Result ℕ Refusal) (report : List ℕ). record {
      position = position;
      item = Items.Record (record { number = number; profile = profile_in p; length = length p; answer = a });
      report = report;
    })
    (answer_room (certificate_octets p) (issuer_octets p) room (profile_in p) other h)
    (report_room (certificate_octets p) (issuer_octets p) room other h (profile_in p))
same_handed room other h (lost_at position loss) = refl

after_long : (room : List ℕ) (e : Event) → length (room_after room e) ≡ length room
unfolding linted_room
after_long room (record_at position number p) = room_long (certificate_octets p) (issuer_octets p) room (profile_in p)
after_long room (lost_at position loss) = refl

no_end : (room : List ℕ) (e : Event) (handed : Handed) (later : List Handed) → unless_end (item_of room e) handed later ≡ handed ∷ later
no_end room (record_at at number p) handed later = refl
no_end room (lost_at at loss) handed later = refl

event_stands : (t : Bool) (position : ℕ) (bs : List (List ℕ)) → position_of (event_if t position bs) ≡ position
event_stands true position bs = refl
event_stands false position bs = refl

-- ---- a step

module _ (d : List ℕ) (i : ℕ) where
  pub item_ended : (room : List ℕ) → length d ≤ 512 * i → item_at d i room ≡ Items.End
  unfolding item_at
  item_ended room h = rw (le-ltb _ _ h)

  pub room_ended : (room : List ℕ) → length d ≤ 512 * i → room_at d i room ≡ room
  unfolding room_at
  room_ended room h = rw (le-ltb _ _ h)

  module _ (h : 512 * i < length d) where
    pub item_is : (room : List ℕ) → item_at d i room ≡ item_of room (event_at d i)
    unfolding item_at
    item_is room = rw (lt-ltb _ _ h)

    pub room_is : (room : List ℕ) → room_at d i room ≡ room_after room (event_at d i)
    unfolding room_at
    room_is room = rw (lt-ltb _ _ h)

pub room_stays : (d : List ℕ) (i : ℕ) (room : List ℕ) → length (room_at d i room) ≡ length room
room_stays d i room =
    ⊎_elim
    (λ (h : 512 * i < length d). rw (room_is d i h room) (after_long room (event_at d i)))
    (λ (h : length d ≤ 512 * i). rw (room_ended d i room h))
    (below_or_not (512 * i) (length d))

-- what is handed over from a position on, in any room: what a step hands out there in a room as long, and then what is handed over from where it ends
pub handed_next : (d other : List ℕ) (i : ℕ) (room : List ℕ) → length room ≡ length other → 512 * i < length d
    → all_handed_over other (events_from d i)
    ≡ handed_at i (item_at d i room) (room_at d i room) ∷ all_handed_over other (events_from d (i + item_blocks (item_at d i room)))
handed_next d other i room h k =
    let e : Event = event_at d i in
    let m : ℕ = item_blocks (item_at d i room) in
    ap (λ (es : List Event). all_handed_over other es) (reads_on d i k)
    ∙ ap₂ (λ (x : Handed) (n : ℕ). x ∷ all_handed_over other (events_from d (i + n)))
    (sym (same_handed room other h e)
    ∙ ap (λ (p : ℕ). handed_at p (item_of room e) (room_after room e)) (event_stands (starts (from d i)) i (from d i))
    ∙ ap₂ (λ (x : Item) (last : List ℕ). handed_at i x last) (sym (item_is d i k room)) (sym (room_is d i k room)))
    (sym (item_blocks_lem d i room))

-- ---- the walk

abbrev Later : ℕ → List ℕ → List ℕ → Type 0
Later n d other =
    (i : ℕ) (room : List ℕ) → length room ≡ length other → length (blocks d) ≤ i + n → walk n d i room ≡ all_handed_over other (events_from d i)

module _ (n : ℕ) (d other : List ℕ) (i : ℕ) (room : List ℕ) where
  past_end : length d ≤ 512 * i → walk (suc n) d i room ≡ all_handed_over other (events_from d i)
  past_end k = rw (item_ended d i room k, from_nil d i k)

  inside : Later n d other → length room ≡ length other → length (blocks d) ≤ i + suc n → 512 * i < length d
      → walk (suc n) d i room ≡ all_handed_over other (events_from d i)
  inside later h l k =
      let m : ℕ = blocks_in (found_at d i) in
      let some : 0 < m = rw (item_blocks_lem d i room) at (item_moves d i room k) in
      let long : length (room_at d i room) ≡ length other = room_stays d i room ∙ h in
      rw (handed_next d other i room h k, item_blocks_lem d i room)
      (goes (item_at d i room) (item_is d i k room)
      ∙ ap (λ (xs : List Handed). handed_at i (item_at d i room) (room_at d i room) ∷ xs) (later (i + m) (room_at d i room) long (omega arith)))
    where
      goes : (item : Item) → item ≡ item_of room (event_at d i)
          → unless_end item (handed_at i (item_at d i room) (room_at d i room)) (walk n d (i + blocks_in (found_at d i)) (room_at d i room))
          ≡ handed_at i (item_at d i room) (room_at d i room) ∷ walk n d (i + blocks_in (found_at d i)) (room_at d i room)
      goes item e = rw e (no_end room (event_at d i) _ _)

walked_from : (n : ℕ) (d other : List ℕ) → Later n d other
walked_from zero d other i room h l =
    ap (λ (bs : List (List ℕ)). all_handed_over other (reading 0 i bs)) (sym (drop_of_length-le (blocks d) {i = i} (omega arith)))
walked_from (suc n) d other i room h l =
    ⊎_elim (inside n d other i room (walked_from n d other) h l) (past_end n d other i room) (below_or_not (512 * i) (length d))

pub walked : (deck room : List ℕ) (steps : ℕ) → length (blocks deck) ≤ steps → walk steps deck 0 room ≡ all_handed_over room (events deck)
unfolding events
walked deck room steps h = walked_from steps deck room 0 room refl (omega arith)
