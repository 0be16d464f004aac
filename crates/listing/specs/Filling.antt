-- The listing a bufferful at a time: what one fill of a buffer puts there. It goes by what is handed over, item by item, and never cuts the lines of one.
use Rattle.std.specs.Prelude.{cond, List, [], ◌∷◌, ◌++◌, ◌≡◌, ℕ, suc, ◌+◌, ◌*◌, ◌/◌, min, leb, length, take, drop}
use Rattle.std.specs.declared.ops.ControlFlow.{ControlFlow}
use Rattle.std.specs.declared.ops.ControlFlow.TheVariants.{Continue, Break}
use Rattle.listing.specs.Lines.{total_line, too_long_line}
use Rattle.listing.specs.Listing.{program_room, handed_lines}
use Rattle.listing.specs.declared.filling.Progress.{Progress}
use Rattle.listing.specs.declared.filling.Filling.{Filling}
use Rattle.octets.specs.Numbers.{largest}
use Rattle.blocks.specs.Record.{parts}
use Rattle.report.specs.Entries.{width}
use Rattle.reader.specs.Runs.{blocks}
use Rattle.reader.specs.Events.{events_from}
use Rattle.reader.specs.Walking.{Handed, all_handed_over}
use Rattle.reader.specs.declared.stepping.Item.{Item}
use Rattle.reader.specs.declared.counting.Counts.{Counts}
use Rattle.reader.specs.declared.stepping.Item.TheVariants as Items

-- ---- how far a listing has come: the block that is listed next, and what was counted on the way

abbrev pub nothing_listed : Progress
nothing_listed = record { position = 0; records = 0; lost = 0 }

-- one more, as far as a usize counts
abbrev pub one_more : ℕ → ℕ
one_more n = min (suc n) largest

-- behind an item
abbrev pub advanced : Progress → Item → Progress
advanced p (Items.Record r) = record { position = p.position + parts r.length; records = one_more p.records; lost = p.lost }
advanced p (Items.Lost loss) = record { position = p.position + 1; records = p.records; lost = one_more p.lost }
advanced p Items.End = p

abbrev pub counts_in : Progress → Counts
counts_in p = record { records = p.records; lost = p.lost }

-- ---- a fill

-- no finding's line has more octets: three numbers of at most five digits, the words between them, " should" and the line feed
abbrev pub finding_space : ℕ
finding_space = 37

-- so many octets hold all lines of any item whose findings fit in the linter's room (at most 81 octets for its first line), and the last line too (at most 83)
abbrev pub item_space : ℕ
item_space = 83 + finding_space * (65536 / width)

-- what a fill puts, how far the listing has come then, and whether it goes on or all of it has been put
pub record Portion : Type 0 where
  pub text : List ℕ
  pub next : ControlFlow Progress Progress

-- where any item fits behind the n octets that are put already
abbrev pub if_space : ℕ → ℕ → Progress → Portion → Portion
if_space size n p portion = cond (leb (n + item_space) size) portion (record { text = []; next = Continue p })

abbrev pub all_of : Progress → List ℕ → Portion
all_of p text = record { text = text; next = Break p }

abbrev pub lines_then : List ℕ → Portion → Portion
lines_then lines portion = record { text = lines ++ portion.text; next = portion.next }

-- a buffer of `size` octets, n of them put already, and the items that are left: the lines of each, and the last line
abbrev pub portion_of : ℕ → ℕ → ℕ → Progress → List Handed → Portion
portion_of size total n p [] = if_space size n p (all_of p (total_line (counts_in p) total))
portion_of size total n p (h ∷ hs) =
    if_space size n p (lines_then (handed_lines h) (portion_of size total (n + length (handed_lines h)) (advanced p h.item) hs))

-- what is handed over from a position on
unfoldable pub items_from : List ℕ → ℕ → List Handed
items_from deck position = all_handed_over program_room (events_from deck position)

-- "takes as much of deck; past that it prints only "deck too long"" (document 01, "The deck")
unfoldable pub deck_portion : List ℕ → Progress → ℕ → Portion
deck_portion deck p size =
    cond (leb (length deck) 65536) (portion_of size (length (blocks deck)) 0 p (items_from deck p.position)) (if_space size 0 p (all_of p too_long_line))

-- the portion stands at the front of the buffer, and the rest of it is as it was
pub record Filled (portion : Portion) (out : List ℕ) (r : Filling) (last : List ℕ) : Type 0 where
  pub told : r ≡ record { end = length portion.text; next = portion.next }
  pub octets : last ≡ portion.text ++ drop (length portion.text) out

-- ---- one fill after the other

-- what a caller writes who fills a buffer from somewhere on, writes what was put, and goes on from there with any buffer until all is put
pub data Writes (deck : List ℕ) : Progress → List ℕ → Type 0 where
  ends : (p q : Progress) (out last : List ℕ) (r : Filling) → Filled (deck_portion deck p (length out)) out r last → r.next ≡ Break q
      → Writes deck p (take r.end last)
  goes_on : (p q : Progress) (out last : List ℕ) (r : Filling) (later : List ℕ) → Filled (deck_portion deck p (length out)) out r last → r.next ≡ Continue q
      → Writes deck q later → Writes deck p (take r.end last ++ later)
