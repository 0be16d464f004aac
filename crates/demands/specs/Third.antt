-- Demand 3 (document 00): "Take a deck of any records, written by our own writer and numbered 1, 2, 3 and on without a gap. Spoil any set of its blocks where
-- they stand, so that each spoiled block fails its check. Reading gives exactly the records none of whose blocks was spoiled, in their order, with the
-- findings or the refusal that each would get alone, and lists every other block once as lost. One byte of a good block changed, two unequal bytes of it
-- before the check exchanged, a block all 00 or all FF: each of these always fails the check."
use Rattle.std.specs.Prelude.{true, false, List, [], ◌∷◌, ◌++◌, ◌≡◌, ℕ, suc, ◌+◌, ◌*◌, ◌^◌, ◌≤◌, ◌<◌, length, set, take, replicate, Ok, Result}
use Rattle.octets.specs.Octets.{octet_at, Octets}
use Rattle.blocks.specs.Block.{sound}
use Rattle.writer.specs.declared.reasons.NotWritten.{NotWritten}
use Rattle.writer.specs.Answers.{Written}
use Rattle.reader.specs.Runs.{blocks}
use Rattle.reader.specs.Stepping.{Stepped, item_blocks}
use Rattle.reader.specs.Walking.{Handed, handed_at}
use Rattle.reader.specs.declared.stepping.Item.{Item}
use Rattle.listing.specs.Lines.{total_line}
use Rattle.listing.specs.Listing.{lines_of, program_room}
use Rattle.listing.specs.Filling.{nothing_listed, Writes}
use Rattle.recovery.specs.Submitted.{Submitted}
use Rattle.recovery.specs.Spoiling.{Spoiled}
use Rattle.recovery.specs.Expected.{expected, OneBehindTheOther}
use Rattle.reader.specs.declared.stepping.Item.TheVariants as Items

-- ---- "a deck of any records, written by our own writer and numbered 1, 2, 3 and on without a gap"

-- calls that the writer's contract answers with blocks, numbered `number` and on, and their blocks laid end to end
pub data WrittenDeck : ℕ → List Submitted → List ℕ → Type 0 where
  no_record : {number : ℕ} → WrittenDeck number [] []
  a_record : {number : ℕ} {s : Submitted} {ss : List Submitted} {deck : List ℕ} (room last : List ℕ) (r : Result ℕ NotWritten) (count : ℕ)
      → Written number s.profile s.certificate s.issuer room r last → r ≡ Ok count → WrittenDeck (suc number) ss deck
      → WrittenDeck number (s ∷ ss) (take (512 * count) last ++ deck)

-- ---- "reading"

-- steps that the reader's contract allows, each from where the last one ended, with the room that it left, to the end of the deck; and what they handed out
pub data ReadThrough (deck : List ℕ) : ℕ → List ℕ → List Handed → Type 0 where
  at_end : {position : ℕ} {room : List ℕ} (r : Item) (last : List ℕ) → Stepped deck position room r last → r ≡ Items.End
      → ReadThrough deck position room []
  an_item : {position : ℕ} {room : List ℕ} {later : List Handed} (r : Item) (last : List ℕ) → Stepped deck position room r last → (r ≡ Items.End → ⊥)
      → ReadThrough deck (position + item_blocks r) last later → ReadThrough deck position room (handed_at position r last ∷ later)

-- ---- what is printed of what was handed out: a line for each, and how many there were

abbrev pub is_record : Item → ℕ
is_record (Items.Record r) = 1
is_record (Items.Lost loss) = 0
is_record Items.End = 0

abbrev pub is_lost : Item → ℕ
is_lost (Items.Record r) = 0
is_lost (Items.Lost loss) = 1
is_lost Items.End = 0

abbrev pub how_many : (Item → ℕ) → List Handed → ℕ
how_many kind [] = 0
how_many kind (h ∷ hs) = kind h.item + how_many kind hs

abbrev pub listed : List Handed → ℕ → List ℕ
listed hs total = lines_of hs ++ total_line (record { records = how_many is_record hs; lost = how_many is_lost hs }) total

-- ---- the statement

-- of records that were submitted to the writer, and the deck as it is now. `expected` is, record by record: where none of its blocks fails its check, the
-- record with the linter's answer and report in that room for it alone; else each of its blocks as lost
pub record Recovered (ss : List Submitted) (deck : List ℕ) : Type 0 where
  -- "exactly the records none of whose blocks was spoiled, in their order, with the findings or the refusal that each would get alone", and the others lost
  pub reads : (room : List ℕ) (hs : List Handed) → ReadThrough deck 0 room hs → hs ≡ expected room 0 1 ss (blocks deck)
  -- and steps do go through the deck, in any room
  pub goes_through : (room : List ℕ) → (hs : List Handed) × ReadThrough deck 0 room hs
  -- "lists every other block once"
  pub once : (room : List ℕ) → OneBehindTheOther 0 (expected room 0 1 ss (blocks deck)) (length (blocks deck))
  -- and what the program prints, fill after fill, is that and nothing else
  pub prints : (text : List ℕ) → length deck ≤ 65536 → Writes deck nothing_listed text
      → text ≡ listed (expected program_room 0 1 ss (blocks deck)) (length (blocks deck))

-- "One byte of a good block changed, two unequal bytes of it before the check exchanged"
pub record ChangesShow (b : List ℕ) : Type 0 where
  pub changed : (i x : ℕ) → i < 512 → x < 256 → (x ≡ octet_at b i → ⊥) → sound (set b i x) ≡ false
  pub exchanged : (i j : ℕ) → i < 510 → j < 510 → (octet_at b i ≡ octet_at b j → ⊥) → sound (set (set b i (octet_at b j)) j (octet_at b i)) ≡ false

pub record Demand3 : Type 0 where
  pub recovers : (ss : List Submitted) (was deck : List ℕ) → length ss < 2 ^ 32 → WrittenDeck 1 ss was → Spoiled was deck → Recovered ss deck
  pub changes_show : (b : List ℕ) → Octets b → sound b ≡ true → ChangesShow b
  -- "a block all 00 or all FF"
  pub zeros_fail : sound (replicate 512 0) ≡ false
  pub ones_fail : sound (replicate 512 255) ≡ false
