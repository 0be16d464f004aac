-- One side of the records of a number: "a record written to the deck reads back as it was" (document 00, demand 2), for who asks for one of its
-- certificates.
use Rattle.std.specs.Prelude.{cond, List, [], ◌∷◌, ◌≡◌, ℕ, ◌+◌, eqb, leb, length, Option, Some, None, Result, Ok, Err}
use Rattle.retrieval.specs.declared.Fetched.{Fetched}
use Rattle.retrieval.specs.declared.NoRoom.{NoRoom}
use Rattle.blocks.specs.Record.{parts, certificate_octets, issuer_octets}
use Rattle.lint.specs.declared.reasons.Side.{Side}
use Rattle.lint.specs.Statements.{side_octets}
use Rattle.reader.specs.Events.{Event, record_at, lost_at, events}
use Rattle.reader.specs.Taking.{in_front_of}

-- that side of a record's octets
abbrev pub written_side : Side → List ℕ → List ℕ
written_side side p = side_octets (certificate_octets p) (issuer_octets p) side

-- of what reading finds, the records of that number, in their order
abbrev pub numbered : ℕ → List Event → List Event
numbered number [] = []
numbered number (record_at position other p ∷ es) = cond (eqb other number) (record_at position other p ∷ numbered number es) (numbered number es)
numbered number (lost_at position loss ∷ es) = numbered number es

-- that side of each
abbrev pub sides_in : Side → List Event → List (List ℕ)
sides_in side [] = []
sides_in side (record_at position number p ∷ es) = written_side side p ∷ sides_in side es
sides_in side (lost_at position loss ∷ es) = sides_in side es

-- that side of every record of that number in a deck
abbrev pub sides_of : Side → ℕ → List ℕ → List (List ℕ)
sides_of side number deck = sides_in side (numbered number (events deck))

-- ---- the first of them in a lent buffer

-- the buffer has fewer octets
abbrev pub no_room : NoRoom
no_room = record {}

-- what is said of octets that go into a buffer of so many, from a record behind which the block at `next` stands
abbrev pub fetched_octets : List ℕ → ℕ → ℕ → Result Fetched NoRoom
fetched_octets s next room = cond (leb (length s) room) (Ok (record { length = length s; next = next })) (Err no_room)

-- nothing where none is left
abbrev pub fetched_of : Side → ℕ → List Event → Option (Result Fetched NoRoom)
fetched_of side room [] = None
fetched_of side room (record_at position number p ∷ es) = Some (fetched_octets (written_side side p) (position + parts (length p)) room)
fetched_of side room (lost_at position loss ∷ es) = None

-- the buffer then
abbrev pub out_after : Side → List ℕ → List Event → List ℕ
out_after side out [] = out
out_after side out (record_at position number p ∷ es) = in_front_of (written_side side p) out
out_after side out (lost_at position loss ∷ es) = out

-- the whole of it, of these records
pub record FetchedFirst (es : List Event) (side : Side) (out : List ℕ) (r : Option (Result Fetched NoRoom)) (last : List ℕ) : Type 0 where
  pub told : r ≡ fetched_of side (length out) es
  pub bytes : last ≡ out_after side out es
