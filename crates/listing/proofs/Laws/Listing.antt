-- What the listing asks, and what it leaves unasked.
--     room_lines       the lines of an item, read from the room that its step leaves, are those of the report
--     listing_room     the listing asks nothing of the room but its length
--     room_program     the program lends 65,536 octets of room
--     printed_listing, printed_too_long     what is printed: the listing in any room of 65,536 octets, or one line
--     found_entries    of a record that is accepted, the entries whose lines are listed are its findings
--     level_said       and each of these lines ends in the word of its rule's level
-- Assumes nothing.
use mathlib.Core.Path.{◌≡◌, refl, sym, ap, ap₂, subst, ◌∙◌}
use mathlib.Core.List.{List, [], ◌∷◌, ◌++◌}
use mathlib.Core.Bool.{true}
use Prim.Native.Nat.{ℕ, ◌≤◌, ◌<◌}
use lib.ListN.{length, length-replicate}
use borrow.Author.Tests.{le-leb, lt-leb}
use Rattle.std.specs.Prelude.{Result, Ok, Err}
use Rattle.listing.specs.Lines.{level_word, level_text, record_line, total_line, too_long_line}
use Rattle.listing.specs.Listing.{finding_lines, reported_entries, record_lines, item_lines, lines_of, listing_of, program_room, printed}
use Rattle.texts.specs.Texts.{word}
use Rattle.report.specs.declared.sink.Entry.{Entry}
use Rattle.report.specs.Answers.{enough_room}
use Rattle.report.specs.Order.{In}
use Rattle.profiles.specs.Judged.{level_of}
use Rattle.profiles.specs.Levels.{level_number}
use Rattle.profiles.specs.declared.fields.Profile.{Profile}
use Rattle.profiles.specs.declared.levels.Level.{Level}
use Rattle.profiles.specs.declared.levels.Level.TheVariants.{Must, Should}
use Rattle.rules.specs.Rules.{findings}
use Rattle.rules.proofs.Laws.Findings.{findings_levelled}
use Rattle.lint.specs.declared.reasons.Refusal.{Refusal}
use Rattle.lint.specs.Judging.{judgement_of}
use Rattle.lint.specs.Answers.{answer_to, answer_of, room_of, report_of}
use Rattle.lint.proofs.Laws.Order.{findings_back}
use Rattle.reader.specs.Runs.{blocks}
use Rattle.reader.specs.Events.{Event, events}
use Rattle.reader.specs.Counting.{tally_of}
use Rattle.reader.specs.Walking.{Handed, report_in, all_handed_over}
use Rattle.reader.specs.declared.stepping.Item.{Item}
use Rattle.reader.proofs.Laws.Walking.{same_handed}
use Rattle.report.proofs.Laws.Reading.{decode_take}
use Rattle.reader.specs.declared.stepping.Item.TheVariants as Items

entries_room : (a : Result ℕ Refusal) (room : List ℕ) → reported_entries a (report_of a room) ≡ reported_entries a room
entries_room (Ok count) room = decode_take count room
entries_room (Err r) room = refl

pub room_lines : (position : ℕ) (item : Item) (room : List ℕ) → item_lines position item room ≡ item_lines position item (report_in item room)
unfolding record_lines
room_lines position (Items.Record r) room = ap (λ (es : List Entry). record_line r ++ finding_lines es) (sym (entries_room r.answer room))
room_lines position (Items.Lost loss) room = refl
room_lines position Items.End room = refl

-- ---- the room

all_handed : (room other : List ℕ) → length room ≡ length other → (es : List Event) → all_handed_over room es ≡ all_handed_over other es
all_handed room other h [] = refl
all_handed room other h (e ∷ es) = ap₂ (λ (x : Handed) (xs : List Handed). x ∷ xs) (same_handed room other h e) (all_handed room other h es)

pub listing_room : (deck room other : List ℕ) → length room ≡ length other → listing_of deck room ≡ listing_of deck other
unfolding listing_of
listing_room deck room other h =
    ap (λ (hs : List Handed). lines_of hs ++ total_line (tally_of deck) (length (blocks deck))) (all_handed room other h (events deck))

pub room_program : length program_room ≡ 65536
unfolding program_room
room_program = length-replicate {A = ℕ} 65536 0

pub printed_listing : (deck room : List ℕ) → length deck ≤ 65536 → length room ≡ 65536 → printed deck ≡ listing_of deck room
unfolding printed
printed_listing deck room h l = rw (le-leb (length deck) 65536 h) (listing_room deck program_room room (room_program ∙ sym l))

pub printed_too_long : (deck : List ℕ) → 65536 < length deck → printed deck ≡ too_long_line
unfolding printed
printed_too_long deck h = rw (lt-leb (length deck) 65536 h)

-- ---- a record's findings

level_word_lem : (l : Level) → level_text (level_number l) ≡ word (level_word l)
level_word_lem Must = refl
level_word_lem Should = refl

module _ (p : Profile) (certificate issuer room : List ℕ) (profile : ℕ)
    (j : judgement_of certificate issuer profile ≡ Ok p) (f : enough_room (findings p certificate issuer) room ≡ true) where
  pub found_entries : reported_entries (answer_of certificate issuer profile room) (room_of certificate issuer profile room) ≡ findings p certificate issuer
  unfolding answer_of room_of answer_to
  found_entries = rw (j, f) (findings_back p certificate issuer profile room j f)

  pub level_said : (e : Entry) → In e (reported_entries (answer_of certificate issuer profile room) (room_of certificate issuer profile room))
      → level_text e.level ≡ word (level_word (level_of e.rule))
  level_said e m =
      let k = findings_levelled p certificate issuer e (subst (λ (es : List Entry). In e es) found_entries m) in
      ap level_text k ∙ level_word_lem (level_of e.rule)
