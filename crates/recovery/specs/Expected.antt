-- "Reading gives exactly the records none of whose blocks was spoiled, in their order, with the findings or the refusal that each would get alone,
-- and lists every other block once as lost" (document 00, demand 3). "'Alone' in demand 3 means in that same room" (document 01, "The deck").
use Rattle.std.specs.Prelude.{Bool, true, false, List, [], ◌∷◌, ◌++◌, ◌≡◌, ℕ, suc, ◌+◌, length, take, drop}
use Rattle.blocks.specs.Record.{parts}
use Rattle.lint.specs.Answers.{answer_of, room_of, report_of}
use Rattle.reader.specs.Events.{loss_of}
use Rattle.reader.specs.Stepping.{item_blocks}
use Rattle.reader.specs.Walking.{Handed}
use Rattle.reader.specs.declared.stepping.Record.{Record}
use Rattle.reader.specs.declared.stepping.Item.TheVariants as Items
use Rattle.recovery.specs.Submitted.{Submitted, submitted_octets}
use Rattle.recovery.specs.Spoiling.{all_sound}

-- the record as it was submitted, with the linter's answer to it alone
abbrev pub handed_out : List ℕ → ℕ → Submitted → Record
handed_out room number s =
    record {
      number = number;
      profile = s.profile;
      length = length (submitted_octets s);
      answer = answer_of s.certificate s.issuer s.profile room;
    }

-- with its report, as the linter leaves it in the room for it alone
abbrev pub recovered : List ℕ → ℕ → ℕ → Submitted → Handed
recovered room position number s =
    record {
      position = position;
      item = Items.Record (handed_out room number s);
      report = report_of (answer_of s.certificate s.issuer s.profile room) (room_of s.certificate s.issuer s.profile room);
    }

-- each block lost, from a position on
abbrev pub all_lost : ℕ → List (List ℕ) → List Handed
all_lost position [] = []
all_lost position (b ∷ bs) = record { position = position; item = Items.Lost (loss_of b); report = [] } ∷ all_lost (suc position) bs

-- of one record, by whether all its blocks are sound: the record, or each of its blocks as lost
abbrev pub fate : Bool → List ℕ → ℕ → ℕ → Submitted → List (List ℕ) → List Handed
fate true room position number s bs = recovered room position number s ∷ []
fate false room position number s bs = all_lost position bs

-- how many blocks a record has
abbrev pub extent : Submitted → ℕ
extent s = parts (length (submitted_octets s))

-- of records that are numbered `number` and on, whose blocks, as they are now, stand from a position on
abbrev pub expected : List ℕ → ℕ → ℕ → List Submitted → List (List ℕ) → List Handed
expected room position number [] bs = []
expected room position number (s ∷ ss) bs =
    fate (all_sound (take (extent s) bs)) room position number s (take (extent s) bs)
    ++ expected room (position + extent s) (suc number) ss (drop (extent s) bs)

-- the same where no block fails its check: each record
abbrev pub all_handed_out : List ℕ → ℕ → ℕ → List Submitted → List Handed
all_handed_out room position number [] = []
all_handed_out room position number (s ∷ ss) =
    recovered room position number s ∷ all_handed_out room (position + extent s) (suc number) ss

-- the items stand one behind the other, the first at `start`, and the last ends before `end`: each block between belongs to one item
abbrev pub OneBehindTheOther : ℕ → List Handed → ℕ → Type 0
OneBehindTheOther start [] end = start ≡ end
OneBehindTheOther start (h ∷ hs) end = (h.position ≡ start) × OneBehindTheOther (start + item_blocks h.item) hs end
