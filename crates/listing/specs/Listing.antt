-- The listing of a deck: all that the program prints.
use Rattle.std.specs.Prelude.{cond, List, [], ◌∷◌, ◌++◌, ℕ, leb, length, replicate, Err, Ok, Result}
use Rattle.listing.specs.Lines.{finding_line, record_line, lost_line, total_line, too_long_line}
use Rattle.report.specs.Entries.{decode}
use Rattle.report.specs.declared.sink.Entry.{Entry}
use Rattle.reader.specs.Runs.{blocks}
use Rattle.reader.specs.Events.{events}
use Rattle.reader.specs.Counting.{tally_of}
use Rattle.reader.specs.Walking.{Handed, all_handed_over}
use Rattle.reader.specs.declared.stepping.Record.{Record}
use Rattle.lint.specs.declared.reasons.Refusal.{Refusal}
use Rattle.reader.specs.declared.stepping.Item.{Item}
use Rattle.reader.specs.declared.stepping.Item.TheVariants as Items

unfoldable pub finding_lines : List Entry → List ℕ
finding_lines [] = []
finding_lines (e ∷ es) = finding_line e ++ finding_lines es

-- the entries that an answer counts, as the report's octets say them
abbrev pub reported_entries : Result ℕ Refusal → List ℕ → List Entry
reported_entries (Ok count) report = decode count report
reported_entries (Err r) report = []

-- "An unrefused record prints "record 1 profile 3 findings 2" and, for each, "  104 at 13 length 3""
unfoldable pub record_lines : Record → List ℕ → List ℕ
record_lines r report = record_line r ++ finding_lines (reported_entries r.answer report)

-- what the reader hands over at a position, with the report
abbrev pub item_lines : ℕ → Item → List ℕ → List ℕ
item_lines position (Items.Record r) report = record_lines r report
item_lines position (Items.Lost loss) report = lost_line position loss
item_lines position Items.End report = []

abbrev pub handed_lines : Handed → List ℕ
handed_lines h = item_lines h.position h.item h.report

-- "by block position": all that is handed over, in its order
abbrev pub lines_of : List Handed → List ℕ
lines_of [] = []
lines_of (h ∷ hs) = handed_lines h ++ lines_of hs

-- the listing of a deck whose reader lends the linter the room
unfoldable pub listing_of : List ℕ → List ℕ → List ℕ
listing_of deck room = lines_of (all_handed_over room (events deck)) ++ total_line (tally_of deck) (length (blocks deck))

-- "It lends the linter 65,536 octets of room"
unfoldable pub program_room : List ℕ
program_room = replicate 65536 0

-- "and takes as much of deck; past that it prints only "deck too long""
unfoldable pub printed : List ℕ → List ℕ
printed deck = cond (leb (length deck) 65536) (listing_of deck program_room) too_long_line
