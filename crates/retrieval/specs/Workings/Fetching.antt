-- What was found, put into the buffer.
-- How the code goes about it: named by contracts of functions that no other crate can call, and by nothing else of `specs/`.
use Rattle.std.specs.Prelude.{List, ◌≡◌, ℕ, length, Result}
use Rattle.retrieval.specs.declared.Fetched.{Fetched}
use Rattle.retrieval.specs.declared.NoRoom.{NoRoom}
use Rattle.retrieval.specs.Fetching.{fetched_octets}
use Rattle.reader.specs.Taking.{in_front_of}

-- `FetchedFirst` of octets s
pub record PutOctets (s : List ℕ) (next : ℕ) (out : List ℕ) (r : Result Fetched NoRoom) (last : List ℕ) : Type 0 where
  pub told : r ≡ fetched_octets s next (length out)
  pub bytes : last ≡ in_front_of s out
