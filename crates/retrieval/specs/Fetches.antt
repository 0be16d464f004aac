-- What a caller gets who fetches from block 0 on, each time from where the last record ended, until nothing is left.
use Rattle.std.specs.Prelude.{List, [], ◌∷◌, ◌≢◌, ◌≡◌, ℕ, ◌*◌, ◌≤◌, ◌<◌, length, take, Option, Some, None, Result, Ok, Err}
use Rattle.retrieval.specs.Fetching.{numbered, sides_of, no_room, FetchedFirst}
use Rattle.retrieval.specs.declared.Fetched.{Fetched}
use Rattle.retrieval.specs.declared.NoRoom.{NoRoom}
use Rattle.lint.specs.declared.reasons.Side.{Side}
use Rattle.reader.specs.Events.{events_from}

-- what `fetch` ensures
abbrev pub FetchedFrom : List ℕ → ℕ → ℕ → Side → List ℕ → Option (Result Fetched NoRoom) → List ℕ → Type 0
FetchedFrom deck position number side out r last = FetchedFirst (numbered number (events_from deck position)) side out r last

-- such fetches from a position on, each with a buffer of its own, and what each left at the front of its buffer
pub data Fetches (deck : List ℕ) (number : ℕ) (side : Side) : ℕ → List (List ℕ) → Type 0 where
  nothing : {position : ℕ} (out last : List ℕ) → FetchedFrom deck position number side out None last → Fetches deck number side position []
  another : {position : ℕ} {later : List (List ℕ)} (fetched : Fetched) (out last : List ℕ)
      → FetchedFrom deck position number side out (Some (Ok fetched)) last
      → Fetches deck number side fetched.next later
      → Fetches deck number side position (take fetched.length last ∷ later)

-- they give that side of every record of that number, in the deck's order, and nothing else
abbrev pub FetchesAll : List ℕ → ℕ → Side → Type 0
FetchesAll deck number side = (sides : List (List ℕ)) → Fetches deck number side 0 sides → sides ≡ sides_of side number deck

-- and there are such fetches, with 16,384 octets of room
abbrev pub FetchesEnd : List ℕ → ℕ → Side → Type 0
FetchesEnd deck number side = (out : List ℕ) → 16384 ≤ length out → Fetches deck number side 0 (sides_of side number deck)

-- each goes forward, not past the deck's end, so they come to an end
abbrev pub GoesForward : List ℕ → ℕ → Side → Type 0
GoesForward deck number side =
    (position : ℕ) (fetched : Fetched) (out last : List ℕ) (r : Option (Result Fetched NoRoom)) → r ≡ Some (Ok fetched)
    → FetchedFrom deck position number side out r last
    → (position < fetched.next) × (512 * fetched.next ≤ length deck) × (fetched.length ≤ length out)

-- 16,384 octets are room enough: "N from 3 to 16,387" (document 01, "The deck"), of which three are before the certificate
abbrev pub RoomEnough : List ℕ → ℕ → Side → Type 0
RoomEnough deck number side =
    (position : ℕ) (out last : List ℕ) (r : Option (Result Fetched NoRoom)) → 16384 ≤ length out → FetchedFrom deck position number side out r last
    → r ≢ Some (Err no_room)
