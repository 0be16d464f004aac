-- What a fill puts.
--     items_next, items_end      what is handed over from a position on, by a step there
--     portion_next, portion_last, portion_short     the portion where an item is listed, where none is left, and where there is no space
--     Left                       n octets are put, and the rest of the portion is still to be put
--     left_start, left_begun, left_lines, left_last, left_stop     at the start of a fill, past an item, and at its end
--     filled_back                what the text has was put, and the buffer is as it leaves it
--     step_within, step_smaller  an item that is listed is within the deck, and less of that is left behind it
--     step_lists, step_ends, fill_stops      a step of a fill that lists an item, one at the end of the deck, and where no other is sure to fit
--     text_put, text_waits       a fill of one text
--     deck_long, deck_short      the fill of a deck that is too long, and of one that is not
-- Assumes nothing.
use mathlib.Core.Path.{◌≡◌, refl, sym, ap, ap₂, subst, ◌∙◌}
use mathlib.Core.Bool.{true, false}
use mathlib.Core.List.{List, [], ◌∷◌, ◌++◌, append-nil}
use Prim.Native.Nat.{ℕ, ◌+◌, ◌-◌, ◌*◌, ◌≤◌, ◌<◌}
use Rattle.std.proofs.Common.{MutBor}
use native.Mathlib.Omega.{arith}
use lib.ListN.{length, take, drop, length-append}
use lib.Seq.{sets, sets-eq, length-sets, take_at}
use lib.Dec.{leb}
use borrow.Author.Tests.{leb-true, le-leb, lt-leb}
use Rattle.std.specs.declared.ops.ControlFlow.{ControlFlow}
use Rattle.std.specs.declared.ops.ControlFlow.TheVariants.{Continue, Break}
use Rattle.listing.specs.Lines.{total_line, too_long_line}
use Rattle.listing.specs.Listing.{program_room, handed_lines, item_lines}
use Rattle.listing.specs.Filling.{advanced, counts_in, item_space, Portion, if_space, all_of, lines_then, portion_of, items_from, deck_portion, Filled}
use Rattle.listing.specs.declared.filling.Progress.{Progress}
use Rattle.listing.specs.declared.filling.Filling.{Filling}
use Rattle.octets.specs.Octets.{Octets}
use Rattle.octets.proofs.Laws.Writing.{sets_append}
use Rattle.texts.specs.Putting.{buffer_after, Spelled, Grown}
use Rattle.texts.specs.declared.putting.Text.{Text}
use Rattle.texts.proofs.Laws.Putting.{put_whole}
use Rattle.reader.specs.Runs.{blocks}
use Rattle.reader.specs.Stepping.{Stepped, item_blocks, item_at, room_at}
use Rattle.reader.specs.Walking.{Handed, handed_at}
use Rattle.reader.specs.declared.stepping.Item.{Item}
use Rattle.reader.proofs.Laws.Places.{from_nil}
use Rattle.reader.proofs.Laws.Walking.{handed_next}
use Rattle.reader.proofs.Laws.Passing.{item_within, item_inside, item_past}
use Rattle.listing.proofs.Laws.Listing.{room_program, room_lines}
use Rattle.listing.proofs.Laws.Whole.{item_whole}
use Rattle.reader.specs.declared.stepping.Item.TheVariants as Items

-- ---- what is handed over

pub advanced_position : (p : Progress) (item : Item) → (advanced p item).position ≡ p.position + item_blocks item
advanced_position p (Items.Record r) = refl
advanced_position p (Items.Lost loss) = refl
advanced_position p Items.End = omega arith

module _ (deck : List ℕ) (i : ℕ) where
  pub items_next : (room : List ℕ) → length room ≡ 65536 → 512 * i < length deck
      → items_from deck i ≡ handed_at i (item_at deck i room) (room_at deck i room) ∷ items_from deck (i + item_blocks (item_at deck i room))
  unfolding items_from
  items_next room l h = handed_next deck program_room i room (l ∙ sym room_program) h

  pub items_end : length deck ≤ 512 * i → items_from deck i ≡ []
  unfolding items_from
  items_end h = rw (from_nil deck i h)

-- ---- a portion

module _ (size total n : ℕ) (p : Progress) where
  pub portion_short : (hs : List Handed) → leb (n + item_space) size ≡ false
      → portion_of size total n p hs ≡ record { text = []; next = Continue p }
  portion_short [] f = rw f
  portion_short (h ∷ hs) f = rw f

  module _ (t : leb (n + item_space) size ≡ true) where
    pub portion_last : (hs : List Handed) → hs ≡ [] → portion_of size total n p hs ≡ all_of p (total_line (counts_in p) total)
    portion_last hs e = rw (e, t)

    pub portion_next : (h : Handed) (hs all : List Handed) → all ≡ h ∷ hs
        → portion_of size total n p all
        ≡ lines_then (handed_lines h) (portion_of size total (n + length (handed_lines h)) (advanced p h.item) hs)
    portion_next h hs all e = rw (e, t)

-- ---- what is left of a fill

-- of the portion `all` in the buffer `first`: n octets are put, and the buffer is `out`; the portion `rest` is still to be put
pub record Left (all : Portion) (first : List ℕ) (rest : Portion) (n : ℕ) (out : List ℕ) : Type 0 where
  pub inside : n ≤ length out
  pub same_long : length out ≡ length first
  pub long : n + length rest.text ≡ length all.text
  pub octets : buffer_after rest.text n out ≡ buffer_after all.text 0 first
  pub next : rest.next ≡ all.next

pub left_start : (all : Portion) (out : List ℕ) → Left all out all 0 out
left_start all out = record { inside = omega arith; same_long = refl; long = omega arith; octets = refl; next = refl }

-- at the start of a fill, in a buffer that is lent to a text
pub left_begun : (all : ℕ → Portion) (out : MutBor (List ℕ)) {text : Text} → text ≡ record { space = out; len = 0 }
    → Left (all 0) out.now (all text.len) text.len text.space.now
left_begun all out e = rw e (left_start (all 0) out.now)

module _ {all : Portion} {first : List ℕ} where
  -- as the rest is said another way
  pub left_as : {rest other : Portion} {n : ℕ} {out : List ℕ} → rest ≡ other → Left all first rest n out → Left all first other n out
  left_as {n = n} {out = out} e l = subst (λ (x : Portion). Left all first x n out) e l

  -- past the lines of an item that fit
  pub left_lines : {lines : List ℕ} {rest : Portion} {n m : ℕ} {out last : List ℕ} → Left all first (lines_then lines rest) n out
      → Spelled lines n out m last → n + length lines ≤ length out → (m ≡ n + length lines) × Left all first rest m last
  unfolding buffer_after
  left_lines {lines} {rest} {n} {m} {out} {last} l s h =
      let e : m ≡ n + length lines = (put_whole s h).0 in
      let same : length last ≡ length out = ap length s.octets ∙ length-sets out n lines in (
        e,
        record {
          inside = omega (arith, e, same);
          same_long = same ∙ l.same_long;
          long = omega (arith, e, length-append lines rest.text, l.long);
          octets =
              ap₂ (λ (b : List ℕ) (i : ℕ). sets b i rest.text) s.octets e
              ∙ sym (sets_append lines rest.text out n)
              ∙ l.octets;
          next = l.next;
        },
      )

  -- where nothing is left
  pub left_stop : {rest : Portion} {n : ℕ} {out : List ℕ} → Left all first rest n out → rest.text ≡ []
      → Filled all first (record { end = n; next = rest.next }) out
  unfolding buffer_after
  left_stop {rest} {n} {out} l e =
      let none : length rest.text ≡ 0 = ap length e in
      let long : n ≡ length all.text = omega (arith, l.long) in
      let whole : 0 + length all.text ≡ length all.text = omega arith in
      record {
        told = rw (long, l.next);
        octets =
            sym (ap (λ (t : List ℕ). sets out n t) e)
            ∙ l.octets
            ∙ sets-eq all.text first 0 (omega (arith, l.inside, l.same_long, long))
            ∙ ap (λ (k : ℕ). all.text ++ drop k first) whole;
      }

  -- where a text that fits is all that is left
  pub left_last : {p : Progress} {text : List ℕ} {n m : ℕ} {out last : List ℕ} → Left all first (all_of p text) n out
      → Spelled text n out m last → n + length text ≤ length out → Filled all first (record { end = m; next = Break p }) last
  left_last {p} {text} {n} {m} {out} {last} l s h =
      left_stop
      (left_lines {lines = text} {rest = all_of p []}
      (left_as (ap (λ (t : List ℕ). all_of p t) (sym (append-nil text))) l) s h).1
      refl

  -- what was put is what the text has, and the buffer is as the text leaves it
  pub filled_back : (text : Text) {next : ControlFlow Progress Progress} {octets last : List ℕ} → Filled all first (record { end = text.len; next = next }) text.space.now
      → octets ≡ take text.len text.space.now → last ≡ text.space.now → Filled all first (record { end = length octets; next = next }) last
  filled_back text {next} {octets} f e back =
      let long : text.len ≡ length all.text = ap (λ (r : Filling). r.end) f.told in
      let whole : octets ≡ all.text =
      e ∙ ap₂ (λ (k : ℕ) (l : List ℕ). take k l) long f.octets ∙ take_at all.text (drop (length all.text) first) (length all.text) refl in
      let onward : next ≡ all.next = ap (λ (r : Filling). r.next) f.told in
      record { told = rw (whole, onward); octets = back ∙ f.octets }

-- ---- a step of a fill

-- where the reader steps at the next block, and the item that it hands over passes some
module _ (deck : List ℕ) (p : Progress) (room : List ℕ) {next : Item} {left : List ℕ} {passed : ℕ} (s : Stepped deck p.position room next left)
    (e : passed ≡ item_blocks next) (some : passed ≡ 0 → ⊥) where
  told : item_blocks next ≡ item_blocks (item_at deck p.position room)
  told = ap item_blocks s.told

  step_some : item_blocks (item_at deck p.position room) ≡ 0 → ⊥
  step_some none = some (e ∙ told ∙ none)

  step_inside : 512 * p.position < length deck
  step_inside = item_inside deck p.position room step_some

  pub step_within : 512 * (p.position + item_blocks next) ≤ length deck + 511
  step_within = omega (arith, told, item_within deck p.position room (omega (arith, step_inside)))

  pub step_smaller : {q : Progress} → q ≡ advanced p next → length deck - 512 * q.position < length deck - 512 * p.position
  step_smaller {q} on =
      let at : q.position ≡ p.position + item_blocks next = ap (λ (x : Progress). x.position) on ∙ advanced_position p next in
      omega (arith, at, step_inside, some, e)

-- where any item fits behind the first n octets of a buffer, and the reader steps at the next block in the linter's room
module _ {all : Portion} {first out : List ℕ} {n : ℕ} (total : ℕ) (deck : List ℕ) (p : Progress) (room : List ℕ) (l : length room ≡ 65536)
    (t : leb (n + item_space) (length out) ≡ true)
    (rest : Left all first (portion_of (length first) total n p (items_from deck p.position)) n out) where
  abbrev item : Item
  item = item_at deck p.position room

  abbrev lines : List ℕ
  lines = item_lines p.position item (room_at deck p.position room)

  space : n + item_space ≤ length out
  space = leb-true (n + item_space) (length out) t

  fits : leb (n + item_space) (length first) ≡ true
  fits = ap (λ (size : ℕ). leb (n + item_space) size) (sym rest.same_long) ∙ t

  -- the portion is the item's lines and what comes behind them
  lists : 512 * p.position < length deck
      → portion_of (length first) total n p (items_from deck p.position)
      ≡ lines_then lines (portion_of (length first) total (n + length lines) (advanced p item) (items_from deck (advanced p item).position))
  lists h =
      let i : ℕ = p.position in
      let handed : Handed = handed_at i item (room_at deck i room) in
      portion_next (length first) total n p fits handed (items_from deck (i + item_blocks item)) (items_from deck i) (items_next deck i room l h)
      ∙ ap₂ (λ (text : List ℕ) (next : ℕ). lines_then text (portion_of (length first) total (n + length text) (advanced p item) (items_from deck next)))
      (sym (room_lines i item (room_at deck i room))) (sym (advanced_position p item))

  -- an item is listed
  pub step_lists : Octets deck → length deck ≤ 65536 → {m passed : ℕ} {next : Item} {left last : List ℕ} {q : Progress}
      → Stepped deck p.position room next left → passed ≡ item_blocks next → (passed ≡ 0 → ⊥) → Octets left → Spelled (item_lines p.position next left) n out m last
      → q ≡ advanced p next → Left all first (portion_of (length first) total m q (items_from deck q.position)) m last
  step_lists o short {m} {next = next} {left = left} {last = last} s is some k put e =
      let i : ℕ = p.position in
      let h : 512 * i < length deck = step_inside deck p room s is some in
      let text : Spelled lines n out m last =
      subst (λ (x : Item). Spelled (item_lines i x (room_at deck i room)) n out m last) s.told
      (subst (λ (r : List ℕ). Spelled (item_lines i next r) n out m last) s.bytes put) in
      let long : length lines ≤ item_space =
      item_whole deck o i room (omega (arith, l)) (room_at deck i room) (omega arith) (subst Octets s.bytes k) in
      let found = left_lines (left_as (lists h) rest) text (omega (arith, space, long)) in
      subst (λ (x : Progress). Left all first (portion_of (length first) total m x (items_from deck x.position)) m last)
      (sym (e ∙ ap (λ (x : Item). advanced p x) s.told))
      (subst (λ (k : ℕ). Left all first (portion_of (length first) total k (advanced p item) (items_from deck (advanced p item).position)) m last)
      (sym found.0) found.1)

  -- the deck is at its end, and the last line is put
  pub step_ends : {m counted : ℕ} {next : Item} {left last : List ℕ} → Stepped deck p.position room next left → item_blocks next ≡ 0
      → counted ≡ total → length (total_line (counts_in p) counted) ≤ item_space → Spelled (total_line (counts_in p) counted) n out m last
      → Filled all first (record { end = m; next = Break p }) last
  step_ends {m} {last = last} s none e long put =
      let past = item_past deck p.position room (sym (ap item_blocks s.told) ∙ none) in
      left_last
      (left_as (portion_last (length first) total n p fits (items_from deck p.position) (items_end deck p.position past)) rest)
      (subst (λ (k : ℕ). Spelled (total_line (counts_in p) k) n out m last) e put)
      (omega (arith, space, subst (λ (k : ℕ). length (total_line (counts_in p) k) ≤ item_space) e long))

-- ---- the end of a fill

module _ {all : Portion} {first out : List ℕ} {n : ℕ} (total : ℕ) (p : Progress) (hs : List Handed) where
  -- no other item is sure to fit
  pub fill_stops : leb (n + item_space) (length out) ≡ false → Left all first (portion_of (length first) total n p hs) n out
      → Filled all first (record { end = n; next = Continue p }) out
  fill_stops f rest =
      let short : leb (n + item_space) (length first) ≡ false = ap (λ (size : ℕ). leb (n + item_space) size) (sym rest.same_long) ∙ f in
      left_stop (left_as (portion_short (length first) total n p hs short) rest) refl

-- a single text, in a buffer that is lent: where there is space for any item, and where not
module _ (p : Progress) (line : List ℕ) (out : MutBor (List ℕ)) {text : Text} (e : text ≡ record { space = out; len = 0 }) where
  abbrev single : Portion
  single = if_space (length out.now) 0 p (all_of p line)

  pub text_put : leb (text.len + item_space) (length text.space.now) ≡ true → length line ≤ item_space → {last : Text} → Grown line text last
      → Filled single out.now (record { end = last.len; next = Break p }) last.space.now
  text_put t long put =
      let fits : leb (0 + item_space) (length out.now) ≡ true = rw e at t in
      let space : 0 + item_space ≤ length out.now = leb-true (0 + item_space) (length out.now) fits in
      let all : single ≡ all_of p line = rw fits in
      left_last (left_as all (left_start single out.now)) (rw e at put.spelled) (omega (arith, space, long))

  pub text_waits : leb (text.len + item_space) (length text.space.now) ≡ false → {last : List ℕ} → last ≡ text.space.now
      → Filled single out.now (record { end = 0; next = Continue p }) last
  text_waits f back =
      let full : leb (0 + item_space) (length out.now) ≡ false = rw e at f in
      let none : single ≡ record { text = []; next = Continue p } = rw full in
      rw (back, e) (left_stop (left_as none (left_start single out.now)) refl)

-- ---- a deck that is too long, and one that is not

module _ (deck : List ℕ) (p : Progress) {out : List ℕ} {r : Filling} {last : List ℕ} where
  pub deck_long : 65536 < length deck → Filled (if_space (length out) 0 p (all_of p too_long_line)) out r last
      → Filled (deck_portion deck p (length out)) out r last
  unfolding deck_portion
  deck_long h f = rw (lt-leb (length deck) 65536 h) f

  pub deck_short : length deck ≤ 65536 → Filled (portion_of (length out) (length (blocks deck)) 0 p (items_from deck p.position)) out r last
      → Filled (deck_portion deck p (length out)) out r last
  unfolding deck_portion
  deck_short h f = rw (le-leb (length deck) 65536 h) f
