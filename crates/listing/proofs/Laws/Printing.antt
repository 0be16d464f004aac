-- What a caller writes who fills a buffer again and again.
--     writes_printed     from the start of a deck to the end: what `printed` says of it, however long the buffers are
--     fill_inside        what was put is in the buffer
--     fill_moves         a buffer that has space for any item takes one at least, unless all is put
--     one_filling        S11: any two answers that the contract of a fill allows coincide, and so do the buffers
-- Assumes nothing.
use mathlib.Core.Path.{◌≡◌, refl, sym, ap, ap₂, subst, ◌∙◌}
use mathlib.Core.Bool.{Bool, true, false, cond}
use mathlib.Core.Logic.{⊎_elim}
use mathlib.Core.List.{List, [], ◌∷◌, ◌++◌, append_assoc, append-nil}
use Prim.Native.Nat.{ℕ, zero, suc, ◌+◌, ◌*◌, ◌≤◌, ◌<◌}
use native.Mathlib.Omega.{arith}
use lib.ListN.{length, take, drop, length-append}
use lib.Seq.{take_at}
use lib.Dec.{leb}
use borrow.Author.Tests.{leb-true, le-leb}
use Rattle.std.specs.declared.ops.ControlFlow.{ControlFlow}
use Rattle.std.specs.declared.ops.ControlFlow.TheVariants.{Continue, Break}
use Rattle.listing.specs.Lines.{total_line, too_long_line}
use Rattle.listing.specs.Listing.{program_room, handed_lines, lines_of, listing_of, printed}
use Rattle.listing.specs.Filling.{nothing_listed, one_more, advanced, counts_in, item_space, Portion, if_space, all_of, portion_of, items_from, deck_portion, Filled, Writes, ends, goes_on}
use Rattle.listing.specs.declared.filling.Progress.{Progress}
use Rattle.listing.specs.declared.filling.Filling.{Filling}
use Rattle.octets.specs.Numbers.{largest}
use Rattle.blocks.proofs.Laws.Logic.{below_or_not}
use Rattle.reader.specs.Runs.{blocks, starts}
use Rattle.reader.specs.Events.{Event, record_at, lost_at, more_if, reading, events}
use Rattle.reader.specs.Stepping.{item_blocks, item_at}
use Rattle.reader.specs.Counting.{records_in, lost_in, tally_of}
use Rattle.reader.specs.Walking.{Handed, handed_over, all_handed_over}
use Rattle.reader.specs.declared.stepping.Item.{Item}
use Rattle.reader.proofs.Laws.Passing.{item_moves}
use Rattle.reader.proofs.Laws.Places.{block_total}
use Rattle.listing.proofs.Laws.Listing.{room_program}
use Rattle.listing.proofs.Laws.Filling.{advanced_position, items_next, items_end}

-- all that is still to be listed, of these items and of a deck
abbrev remaining : ℕ → Progress → List Handed → List ℕ
remaining total p [] = total_line (counts_in p) total
remaining total p (h ∷ hs) = handed_lines h ++ remaining total (advanced p h.item) hs

unfoldable listed_from : List ℕ → Progress → List ℕ
listed_from deck p = cond (leb (length deck) 65536) (remaining (length (blocks deck)) p (items_from deck p.position)) too_long_line

-- what is listed from where the listing goes on, or nothing
abbrev onward : (Progress → List ℕ) → ControlFlow Progress Progress → List ℕ
onward later (Break p) = []
onward later (Continue p) = later p

onward_as : {later other : Progress → List ℕ} → ((p : Progress) → later p ≡ other p) → (next : ControlFlow Progress Progress) → onward later next ≡ onward other next
onward_as e (Break p) = refl
onward_as e (Continue p) = e p

-- ---- what is handed over from a position on, taken apart

abbrev first_or : Handed → List Handed → Handed
first_or other [] = other
first_or other (h ∷ hs) = h

abbrev others_of : List Handed → List Handed
others_of [] = []
others_of (h ∷ hs) = hs

module _ (deck : List ℕ) (i : ℕ) (h : Handed) (hs : List Handed) (e : h ∷ hs ≡ items_from deck i) where
  before_end : 512 * i < length deck
  before_end =
      ⊎_elim
      (λ (k : 512 * i < length deck). k)
      (λ (k : length deck ≤ 512 * i). absurd (omega (arith, ap (λ (xs : List Handed). length xs) (e ∙ items_end deck i k))))
      (below_or_not (512 * i) (length deck))

  first_item : h.item ≡ item_at deck i program_room
  first_item = ap (λ (xs : List Handed). (first_or h xs).item) (e ∙ items_next deck i program_room room_program before_end)

  other_items : hs ≡ items_from deck (i + item_blocks h.item)
  other_items =
      ap others_of (e ∙ items_next deck i program_room room_program before_end)
      ∙ ap (λ (item : Item). items_from deck (i + item_blocks item)) (sym first_item)

  first_moves : 0 < item_blocks h.item
  first_moves = rw first_item (item_moves deck i program_room before_end)

-- ---- a portion and what is left

module _ (deck : List ℕ) (size total : ℕ) where
  abbrev Covers : ℕ → Progress → List Handed → Type 0
  Covers n p hs =
      (portion_of size total n p hs).text ++ onward (λ q. remaining total q (items_from deck q.position)) (portion_of size total n p hs).next
      ≡ remaining total p hs

  portion_covers : (hs : List Handed) (n : ℕ) (p : Progress) → hs ≡ items_from deck p.position → Covers n p hs
  portion_covers [] n p e = go (leb (n + item_space) size) refl
    where
      go : (b : Bool) → leb (n + item_space) size ≡ b → Covers n p []
      go true t = rw t (append-nil (total_line (counts_in p) total))
      go false t = rw t (ap (λ (xs : List Handed). remaining total p xs) (sym e))
  portion_covers (h ∷ hs) n p e =
      let lines : List ℕ = handed_lines h in
      let next : Progress = advanced p h.item in
      let others : hs ≡ items_from deck next.position =
      other_items deck p.position h hs e ∙ ap (λ (i : ℕ). items_from deck i) (sym (advanced_position p h.item)) in
      go (leb (n + item_space) size) refl (portion_covers hs (n + length lines) next others)
    where
      go : (b : Bool) → leb (n + item_space) size ≡ b → Covers (n + length (handed_lines h)) (advanced p h.item) hs → Covers n p (h ∷ hs)
      go true t later = rw t (append_assoc (handed_lines h) _ _ ∙ ap (λ (l : List ℕ). handed_lines h ++ l) later)
      go false t later = rw t (ap (λ (xs : List Handed). remaining total p xs) (sym e))

deck_covers : (deck : List ℕ) (p : Progress) (size : ℕ)
    → (deck_portion deck p size).text ++ onward (listed_from deck) (deck_portion deck p size).next ≡ listed_from deck p
unfolding deck_portion listed_from
deck_covers deck p size = go (leb (length deck) 65536) refl
  where
    go : (b : Bool) → leb (length deck) 65536 ≡ b
        → (deck_portion deck p size).text ++ onward (listed_from deck) (deck_portion deck p size).next ≡ listed_from deck p
    go true t =
        let x : Portion = portion_of size (length (blocks deck)) 0 p (items_from deck p.position) in
        let same : (q : Progress) → listed_from deck q ≡ remaining (length (blocks deck)) q (items_from deck q.position) = λ q. rw t in
        rw t
        (ap (λ (l : List ℕ). x.text ++ l) (onward_as same x.next)
        ∙ portion_covers deck size (length (blocks deck)) (items_from deck p.position) 0 p refl)
    go false t = rw t (by_space (leb (0 + item_space) size) refl)
      where
        by_space : (b : Bool) → leb (0 + item_space) size ≡ b
            → (if_space size 0 p (all_of p too_long_line)).text ++ onward (listed_from deck) (if_space size 0 p (all_of p too_long_line)).next ≡ too_long_line
        by_space true s = rw s (append-nil too_long_line)
        by_space false s = rw (s, t)

-- ---- from the start

-- so many records and lost blocks are counted on the way through events
counted : (room : List ℕ) (total records lost : ℕ) (es : List Event) (p : Progress)
    → records ≡ p.records + length (records_in es) → lost ≡ p.lost + length (lost_in es) → records ≤ largest → lost ≤ largest
    → remaining total p (all_handed_over room es) ≡ lines_of (all_handed_over room es) ++ total_line (record { records = records; lost = lost }) total
counted room total records lost [] p r l hr hl =
    let same : p.records ≡ records = omega (arith, r) in
    let others : p.lost ≡ lost = omega (arith, l) in
    ap₂ (λ (a b : ℕ). total_line (record { records = a; lost = b }) total) same others
counted room total records lost (record_at position number octets ∷ es) p r l hr hl =
    let h : Handed = handed_over room (record_at position number octets) in
    let one : records ≡ one_more p.records + length (records_in es) = omega (arith, r) in
    ap (λ (text : List ℕ). handed_lines h ++ text) (counted room total records lost es (advanced p h.item) one l hr hl)
    ∙ sym (append_assoc (handed_lines h) (lines_of (all_handed_over room es)) (total_line (record { records = records; lost = lost }) total))
counted room total records lost (lost_at position loss ∷ es) p r l hr hl =
    let h : Handed = handed_over room (lost_at position loss) in
    let one : lost ≡ one_more p.lost + length (lost_in es) = omega (arith, l) in
    ap (λ (text : List ℕ). handed_lines h ++ text) (counted room total records lost es (advanced p h.item) r one hr hl)
    ∙ sym (append_assoc (handed_lines h) (lines_of (all_handed_over room es)) (total_line (record { records = records; lost = lost }) total))

-- there are no more events than blocks
reading_short : (skip position : ℕ) (bs : List (List ℕ)) → length (reading skip position bs) ≤ length bs
reading_short skip position [] = omega arith
reading_short zero position (b ∷ bs) = omega (arith, reading_short (more_if (starts (b ∷ bs)) (b ∷ bs)) (suc position) bs)
reading_short (suc skip) position (b ∷ bs) = omega (arith, reading_short skip (suc position) bs)

each_counted : (es : List Event) → length (records_in es) + length (lost_in es) ≡ length es
each_counted [] = refl
each_counted (record_at position number octets ∷ es) = omega (arith, each_counted es)
each_counted (lost_at position loss ∷ es) = omega (arith, each_counted es)

listed_all : (deck : List ℕ) → listed_from deck nothing_listed ≡ printed deck
unfolding listed_from printed listing_of tally_of items_from events
listed_all deck = go (leb (length deck) 65536) refl
  where
    go : (b : Bool) → leb (length deck) 65536 ≡ b → listed_from deck nothing_listed ≡ printed deck
    go true t =
        let es : List Event = events deck in
        let few : length (records_in es) + length (lost_in es) ≤ length (blocks deck) =
        omega (arith, each_counted es, reading_short 0 0 (blocks deck)) in
        let short : length deck ≤ 65536 = leb-true (length deck) 65536 t in
        let total : length (blocks deck) ≤ largest = omega (arith, block_total deck, short) in
        rw t (counted program_room (length (blocks deck)) (length (records_in es)) (length (lost_in es)) es nothing_listed (omega arith) (omega arith)
        (omega (arith, few, total)) (omega (arith, few, total)))
    go false t = rw t

-- ---- fill after fill

module _ {portion : Portion} {out last : List ℕ} {r : Filling} (f : Filled portion out r last) where
  put_front : take r.end last ≡ portion.text
  put_front =
      rw (f.told, f.octets) (take_at portion.text (drop (length portion.text) out) (length portion.text) refl)

  -- what was put is in the buffer
  pub fill_inside : length last ≡ length out → r.end ≤ length out
  fill_inside same =
      let long : r.end ≡ length portion.text = ap (λ (x : Filling). x.end) f.told in
      let all : length last ≡ length portion.text + length (drop (length portion.text) out) =
      ap length f.octets ∙ length-append portion.text (drop (length portion.text) out) in
      omega (arith, same, long, all)

  put_next : r.next ≡ portion.next
  put_next = ap (λ (x : Filling). x.next) f.told

writes_listed : (deck : List ℕ) (p : Progress) (text : List ℕ) → Writes deck p text → text ≡ listed_from deck p
writes_listed deck p text (ends _ q out last r f d) =
    let x : Portion = deck_portion deck p (length out) in
    put_front f
    ∙ sym (append-nil x.text)
    ∙ ap (λ (next : ControlFlow Progress Progress). x.text ++ onward (listed_from deck) next) (sym d ∙ put_next f)
    ∙ deck_covers deck p (length out)
writes_listed deck p text (goes_on _ q out last r later f d w) =
    let x : Portion = deck_portion deck p (length out) in
    ap₂ (λ (a b : List ℕ). a ++ b) (put_front f) (writes_listed deck q later w)
    ∙ ap (λ (next : ControlFlow Progress Progress). x.text ++ onward (listed_from deck) next) (sym d ∙ put_next f)
    ∙ deck_covers deck p (length out)

pub writes_printed : (deck text : List ℕ) → Writes deck nothing_listed text → text ≡ printed deck
writes_printed deck text w = writes_listed deck nothing_listed text w ∙ listed_all deck

pub one_filling : {portion : Portion} {out last last' : List ℕ} {r r' : Filling} → Filled portion out r last → Filled portion out r' last'
    → (r ≡ r') × (last ≡ last')
one_filling f g = (f.told ∙ sym g.told, f.octets ∙ sym g.octets)

-- ---- a fill moves on

break_continue : (p q : Progress) → ◌≡◌ {A = ControlFlow Progress Progress} (Break p) (Continue q) → ⊥
break_continue p q e = cc

-- it goes on from a position no lower than this one
abbrev FromOn : ℕ → ControlFlow Progress Progress → Type 0
FromOn position (Break q) = Unit {0}
FromOn position (Continue q) = position ≤ q.position

from_on : (i j : ℕ) → i ≤ j → (next : ControlFlow Progress Progress) → FromOn j next → FromOn i next
from_on i j h (Break q) l = tt
from_on i j h (Continue q) l = omega (arith, h, l)

module _ (size total : ℕ) where
  goes_forward : (hs : List Handed) (n : ℕ) (p : Progress) → FromOn p.position (portion_of size total n p hs).next
  goes_forward [] n p = go (leb (n + item_space) size) refl
    where
      go : (b : Bool) → leb (n + item_space) size ≡ b → FromOn p.position (portion_of size total n p []).next
      go true t = rw t tt
      go false t = rw t (omega arith)
  goes_forward (h ∷ hs) n p = go (leb (n + item_space) size) refl (goes_forward hs (n + length (handed_lines h)) (advanced p h.item))
    where
      go : (b : Bool) → leb (n + item_space) size ≡ b
          → FromOn (advanced p h.item).position (portion_of size total (n + length (handed_lines h)) (advanced p h.item) hs).next
          → FromOn p.position (portion_of size total n p (h ∷ hs)).next
      go true t later = rw t (from_on p.position (advanced p h.item).position (omega (arith, advanced_position p h.item)) _ later)
      go false t later = rw t (omega arith)

pub record Moves (deck : List ℕ) (before after : ℕ) : Type 0 where
  pub on : before < after
  pub inside : 512 * before < length deck

module _ (deck : List ℕ) (p : Progress) (size : ℕ) (space : item_space ≤ size) where
  fits : leb (0 + item_space) size ≡ true
  fits = le-leb (0 + item_space) size (omega (arith, space))

  portion_moves : (hs : List Handed) → hs ≡ items_from deck p.position → (q : Progress)
      → (portion_of size (length (blocks deck)) 0 p hs).next ≡ Continue q → Moves deck p.position q.position
  portion_moves [] e q d = absurd (break_continue p q (rw fits at d))
  portion_moves (h ∷ hs) e q d =
      let next : Progress = advanced p h.item in
      let later : next.position ≤ q.position =
      subst (λ (x : ControlFlow Progress Progress). FromOn next.position x) (rw fits at d) (goes_forward size (length (blocks deck)) hs (0 + length (handed_lines h)) next) in
      record {
        on = omega (arith, later, advanced_position p h.item, first_moves deck p.position h hs e);
        inside = before_end deck p.position h hs e;
      }

  deck_moves : (q : Progress) → (deck_portion deck p size).next ≡ Continue q → Moves deck p.position q.position
  unfolding deck_portion
  deck_moves q = go (leb (length deck) 65536) refl
    where
      go : (b : Bool) → leb (length deck) 65536 ≡ b → (deck_portion deck p size).next ≡ Continue q → Moves deck p.position q.position
      go true t d = portion_moves (items_from deck p.position) refl q (rw t at d)
      go false t d = absurd (break_continue p q (rw (t, fits) at d))

pub fill_moves : (deck : List ℕ) (p : Progress) (out : List ℕ) {r : Filling} {last : List ℕ} {q : Progress} → item_space ≤ length out
    → Filled (deck_portion deck p (length out)) out r last → r.next ≡ Continue q → Moves deck p.position q.position
fill_moves deck p out {q = q} space f d = deck_moves deck p (length out) space q (sym (put_next f) ∙ d)
