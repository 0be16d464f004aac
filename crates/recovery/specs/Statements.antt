-- Demands 2 and 3 on decks, each in one record.
use Rattle.std.specs.Prelude.{List, ◌++◌, ◌≡◌, ℕ, ◌+◌, ◌*◌, ◌≤◌, ◌<◌, ◌^◌, length, take, drop, Ok, Result}
use Rattle.recovery.specs.Submitted.{Submitted, submitted_octets, AllWritable, written}
use Rattle.recovery.specs.Spoiling.{Spoiled}
use Rattle.recovery.specs.Expected.{handed_out, expected, all_handed_out, OneBehindTheOther}
use Rattle.octets.specs.Octets.{octet_at}
use Rattle.lint.specs.Answers.{room_of}
use Rattle.writer.specs.Answers.{write_answer, write_room}
use Rattle.writer.specs.Cutting.{end_to_end}
use Rattle.reader.specs.Runs.{blocks}
use Rattle.reader.specs.Stepping.{Stepped}
use Rattle.reader.specs.Taking.{TakenRecord}
use Rattle.reader.specs.Walking.{walk}
use Rattle.reader.specs.declared.stepping.Item.{Item}
use Rattle.reader.specs.declared.taking.Layout.{Layout}
use Rattle.reader.specs.declared.taking.NotTaken.{NotTaken}
use Rattle.reader.specs.declared.stepping.Item.TheVariants as Items

-- what is taken of a submitted record into a buffer: its number and lengths, and in the buffer its profile and both certificates, octet for octet,
-- before the rest of the buffer as it was
pub record AsItWas (number : ℕ) (s : Submitted) (buffer : List ℕ) (r : Result Layout NotTaken) (last : List ℕ) : Type 0 where
  pub told : r ≡ Ok (record { number = number; length = length (submitted_octets s); certificate = length s.certificate })
  pub profile : octet_at last 0 ≡ s.profile
  pub certificate : take (length s.certificate) (drop 3 last) ≡ s.certificate
  pub issuer : take (length s.issuer) (drop (3 + length s.certificate) last) ≡ s.issuer
  pub rest : drop (3 + length s.certificate + length s.issuer) last ≡ drop (3 + length s.certificate + length s.issuer) buffer

-- a submitted record read back at a position of a deck: a step hands out its number, profile and length, and the linter's complete answer to both
-- certificates; and it is taken as it was into any buffer of so many octets
pub record ReadAgain (number : ℕ) (s : Submitted) (deck : List ℕ) (position : ℕ) : Type 0 where
  pub answered : (lent last : List ℕ) (r : Item) → Stepped deck position lent r last
      → (r ≡ Items.Record (handed_out lent number s)) × (last ≡ room_of s.certificate s.issuer s.profile lent)
  pub taken : (buffer last : List ℕ) (r : Result Layout NotTaken) → 3 + length s.certificate + length s.issuer ≤ length buffer
      → TakenRecord deck position buffer r last → AsItWas number s buffer r last

-- S6, "a record written to the deck reads back as it was": in a deck where what the writer left in its room stands behind any whole blocks and before
-- any octets
abbrev pub ReadsBack : ℕ → Submitted → Type 0
ReadsBack number s =
    (count position : ℕ) (room before after : List ℕ)
    → write_answer number s.profile s.certificate s.issuer room ≡ Ok count
    → length before ≡ 512 * position
    → number < 2 ^ 32
    → ReadAgain number s (before ++ (take (512 * count) (write_room number s.profile s.certificate s.issuer room) ++ after)) position

-- S7, demand 3: what stepping through the deck gives, from block 0 to the end
abbrev pub Recovers : List Submitted → Type 0
Recovers ss =
    (deck room : List ℕ) (steps : ℕ)
    → length ss < 2 ^ 32
    → AllWritable ss
    → Spoiled (end_to_end (written 1 ss)) deck
    → length (blocks deck) ≤ steps
    → walk steps deck 0 room ≡ expected room 0 1 ss (blocks deck)

-- S7 where no block was spoiled: every record, and nothing lost
abbrev pub NoneSpoiled : List Submitted → Type 0
NoneSpoiled ss =
    (room : List ℕ) (steps : ℕ)
    → length ss < 2 ^ 32
    → AllWritable ss
    → length (written 1 ss) ≤ steps
    → walk steps (end_to_end (written 1 ss)) 0 room ≡ all_handed_out room 0 1 ss

-- S7, "every other block once": each block of the deck is one of a record that is handed out, or is lost, once
abbrev pub EachOnce : List Submitted → Type 0
EachOnce ss =
    (deck room : List ℕ)
    → length ss < 2 ^ 32
    → AllWritable ss
    → Spoiled (end_to_end (written 1 ss)) deck
    → OneBehindTheOther 0 (expected room 0 1 ss (blocks deck)) (length (blocks deck))
