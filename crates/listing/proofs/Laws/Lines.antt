-- How long the lines are.
--     finding_long, record_long, lost_long, total_long, too_long_long     each line, of numbers that the code can hold
--     findings_long, item_long  all lines of k findings, and of an item that counts k
--     item_fits                 what the reader hands over counts no more findings than fit in the room
-- Assumes nothing.
use mathlib.Core.Path.{◌≡◌, refl}
use mathlib.Core.Bool.{Bool, true, false, cond}
use mathlib.Core.List.{List, []}
use Prim.Native.Nat.{ℕ, zero, suc, ◌+◌, ◌*◌, ◌^◌, ◌≤◌, ◌<◌}
use native.Mathlib.Omega.{arith}
use lib.ListN.{length, length-append}
use lib.Dec.{ltb, eqb}
use Rattle.std.specs.Prelude.{Result, Ok, Err}
use Rattle.listing.specs.Lines.{level_word, level_text, finding_line, refusal_text, answer_text, record_line, lost_line, total_line, too_long_line}
use Rattle.listing.specs.Filling.{finding_space}
use Rattle.listing.specs.Listing.{finding_lines, reported_entries, record_lines, item_lines}
use Rattle.texts.specs.Texts.{word, decimal}
use Rattle.octets.specs.Octets.{Octets}
use Rattle.profiles.specs.Levels.{level_number}
use Rattle.profiles.specs.declared.levels.Level.TheVariants.{Must, Should}
use Rattle.report.specs.Entries.{width, entry_of, decode}
use Rattle.report.specs.declared.sink.Entry.{Entry}
use Rattle.lint.specs.declared.reasons.Refusal.{Refusal}
use Rattle.lint.specs.Refusals.{refusal_values}
use Rattle.lint.specs.Answers.{answer_of}
use Rattle.lint.proofs.Laws.Bounds.{count_fits}
use Rattle.lint.proofs.Laws.Values.{refusal_tabled}
use Rattle.reader.specs.declared.finding.Loss.{Loss}
use Rattle.reader.specs.declared.finding.Loss.TheVariants.{Short, Unsound, Stray}
use Rattle.blocks.specs.Record.{profile_in, certificate_octets, issuer_octets}
use Rattle.reader.specs.Events.{Event, record_at, lost_at}
use Rattle.reader.specs.Stepping.{item_of, event_at, item_at}
use Rattle.reader.specs.declared.stepping.Record.{Record}
use Rattle.reader.specs.declared.stepping.Item.{Item}
use Rattle.reader.specs.declared.counting.Counts.{Counts}
use Rattle.texts.proofs.Laws.Decimal.{decimal_long, wide_long}
use Rattle.report.proofs.Laws.Reading.{Small, entry_small, decode_none}
use Rattle.listing.proofs.Laws.Findings.{findings_next}
use Rattle.reader.specs.declared.stepping.Item.TheVariants as Items

level_long : (number : ℕ) → length (level_text number) ≤ 7
unfolding word
level_long number = go (eqb number (level_number Must)) (eqb number (level_number Should))
  where
    go : (a b : Bool) → length (cond a (word (level_word Must)) (cond b (word (level_word Should)) [])) ≤ 7
    go true b = omega arith
    go false true = omega arith
    go false false = omega arith

pub finding_long : (e : Entry) → Small e → length (finding_line e) ≤ finding_space
unfolding finding_line word
finding_long e k =
    simp length-append
    (omega (arith, digits e.rule k.0, digits e.place.start k.1, digits e.place.len k.2, level_long e.level))
  where
    digits : (n : ℕ) → n < 65536 → length (decimal n) ≤ 5
    digits n h = decimal_long n 5 (omega arith) (omega arith)

pub lost_long : (position : ℕ) (loss : Loss) → position < 2 ^ 64 → length (lost_line position loss) ≤ 34
unfolding lost_line word
lost_long position Short h = simp length-append (omega (arith, wide_long position h))
lost_long position Unsound h = simp length-append (omega (arith, wide_long position h))
lost_long position Stray h = simp length-append (omega (arith, wide_long position h))

pub total_long : (counts : Counts) (blocks : ℕ) → counts.records < 2 ^ 64 → blocks < 2 ^ 64 → counts.lost < 2 ^ 64
    → length (total_line counts blocks) ≤ 83
unfolding total_line word
total_long counts blocks r b l = simp length-append (omega (arith, wide_long counts.records r, wide_long blocks b, wide_long counts.lost l))

pub too_long_long : length too_long_line ≡ 14
unfolding too_long_line word
too_long_long = refl

-- ---- a record's line

-- the number in an answer: how many findings, or a refusal's place
abbrev pub number_in : Result ℕ Refusal → ℕ
number_in (Ok count) = count
number_in (Err r) = (refusal_values r).place

answer_long : (a : Result ℕ Refusal) → number_in a < 2 ^ 64 → length (answer_text a) ≤ 41
unfolding refusal_text word
answer_long (Ok count) h = simp length-append (omega (arith, wide_long count h))
answer_long (Err r) h =
    let a = decimal_long (refusal_values r).number 1 (omega (arith, (refusal_tabled r).number)) (omega arith) in
    let b = decimal_long (refusal_values r).side 1 (omega (arith, (refusal_tabled r).side)) (omega arith) in
    simp length-append (omega (arith, a, b, wide_long (refusal_values r).place h))

pub record_long : (r : Record) → r.number < 2 ^ 64 → r.profile < 256 → number_in r.answer < 2 ^ 64 → length (record_line r) ≤ 81
unfolding record_line word
record_long r n p h =
    let profile = decimal_long r.profile 3 (omega arith) (omega arith) in
    simp length-append (omega (arith, wide_long r.number n, profile, answer_long r.answer h))

-- ---- all lines of an item

-- each is an octet
pub findings_long : (k : ℕ) (s : List ℕ) → Octets s → length (finding_lines (decode k s)) ≤ finding_space * k
unfolding finding_lines
findings_long zero s o = rw (decode_none s) (omega arith)
findings_long (suc k) s o =
    let one = finding_long (entry_of s k) (entry_small s o k) in
    rw (findings_next s k, length-append (finding_lines (decode k s)) (finding_line (entry_of s k))) (omega (arith, one, findings_long k s o))

-- how many findings an answer counts, and an item
abbrev pub count_of : Result ℕ Refusal → ℕ
count_of (Ok count) = count
count_of (Err r) = 0

abbrev pub count_in : Item → ℕ
count_in (Items.Record r) = count_of r.answer
count_in (Items.Lost loss) = 0
count_in Items.End = 0

-- its numbers are such as the code can hold
abbrev pub Held : Item → Type 0
Held (Items.Record r) = (r.number < 2 ^ 64) × (r.profile < 256) × (number_in r.answer < 2 ^ 64)
Held (Items.Lost loss) = Unit {0}
Held Items.End = Unit {0}

entries_long : (a : Result ℕ Refusal) (s : List ℕ) → Octets s → length (finding_lines (reported_entries a s)) ≤ finding_space * count_of a
unfolding finding_lines
entries_long (Ok count) s o = findings_long count s o
entries_long (Err r) s o = omega arith

pub item_long : (position : ℕ) (item : Item) (s : List ℕ) → position < 2 ^ 64 → Held item → Octets s
    → length (item_lines position item s) ≤ 81 + finding_space * count_in item
unfolding record_lines
item_long position (Items.Record r) s h k o =
    let line = record_long r k.0 k.1 k.2 in
    let others = entries_long r.answer s o in
    rw (length-append (record_line r) (finding_lines (reported_entries r.answer s))) (omega (arith, line, others))
item_long position (Items.Lost loss) s h k o = omega (arith, lost_long position loss h)
item_long position Items.End s h k o = omega arith

-- ---- what fits in the room

answer_fits : (certificate issuer : List ℕ) (profile : ℕ) (room : List ℕ) → width * count_of (answer_of certificate issuer profile room) ≤ length room
answer_fits certificate issuer profile room = go (answer_of certificate issuer profile room) refl
  where
    go : (a : Result ℕ Refusal) → answer_of certificate issuer profile room ≡ a → width * count_of a ≤ length room
    go (Ok count) e = count_fits certificate issuer profile room count e
    go (Err r) e = omega arith

event_fits : (room : List ℕ) (e : Event) → width * count_in (item_of room e) ≤ length room
event_fits room (record_at position number p) = answer_fits (certificate_octets p) (issuer_octets p) (profile_in p) room
event_fits room (lost_at position loss) = omega arith

pub item_fits : (deck : List ℕ) (position : ℕ) (room : List ℕ) → width * count_in (item_at deck position room) ≤ length room
unfolding item_at
item_fits deck position room = go (ltb (512 * position) (length deck))
  where
    go : (t : Bool) → width * count_in (cond t (item_of room (event_at deck position)) Items.End) ≤ length room
    go true = event_fits room (event_at deck position)
    go false = omega arith
