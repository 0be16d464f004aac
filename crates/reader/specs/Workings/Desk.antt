-- A record gathered on a desk, and then linted or laid out in a buffer.
-- How the code goes about it: named by contracts of functions that no other crate can call, and by nothing else of `specs/`.
use Rattle.std.specs.Prelude.{cond, ◌&&◌, List, ◌++◌, ◌≡◌, ℕ, ◌+◌, ◌*◌, ◌/◌, leb, length, drop}
use Rattle.reader.specs.Runs.{from, data_from}
use Rattle.reader.specs.declared.taking.Layout.{Layout}
use Rattle.reader.specs.Taking.{layout_of}
use Rattle.reader.specs.declared.stepping.Record.{Record}
use Rattle.reader.specs.Stepping.{linted_record, linted_room, record_values}
use Rattle.lint.specs.Refusals.{answer_values}

-- `Stepped` of record `number` with octets p
pub record Linted (number : ℕ) (p room : List ℕ) (r : Record) (last : List ℕ) : Type 0 where
  pub told : r ≡ linted_record number p room
  pub values : answer_values r.answer ≡ record_values p room
  pub bytes : last ≡ linted_room p room

-- the data of the k blocks from a position on, at the front of a desk: the desk as it was if the deck has fewer whole blocks there, or the desk fewer octets
unfoldable pub desk_with : List ℕ → ℕ → ℕ → List ℕ → List ℕ
desk_with deck position k desk =
    cond (leb (position + k) (length deck / 512) && leb k (length desk / 502)) (data_from k (from deck position) ++ drop (k * 502) desk) desk

-- record `number` with octets p in the buffer, where there is room
pub record LaidOut (number : ℕ) (p buffer : List ℕ) (r : Layout) (last : List ℕ) : Type 0 where
  pub told : r ≡ layout_of number p
  pub bytes : last ≡ p ++ drop (length p) buffer
