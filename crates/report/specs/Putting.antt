-- What a function does that appends entries to lent room.
use Rattle.std.specs.Prelude.{List, [], ◌∷◌, ◌≡◌, cond, ℕ, ◌+◌, ◌*◌, ◌/◌, ◌^◌, ltb, leb, length}
use Rattle.std.proofs.lemmas.List.Edits.{sets}
use Rattle.report.specs.declared.sink.Entry.{Entry}
use Rattle.report.specs.Entries.{width, entry_octets}

-- A count goes no further: so many entries take more octets than any room has, which are fewer than 2 ^ 63.
abbrev pub cap : ℕ
cap = 2 ^ 63 / width

-- the count after one entry more
unfoldable pub tick : ℕ → ℕ
tick n = cond (ltb n cap) (n + 1) n

-- the room with an entry behind the n that are there, if it fits
unfoldable pub put_one : Entry → ℕ → List ℕ → List ℕ
put_one e n room = cond (leb (width * n + width) (length room)) (sets room (width * n) (entry_octets e)) room

-- the count after the entries
unfoldable pub counted : List Entry → ℕ → ℕ
counted [] n = n
counted (e ∷ es) n = counted es (tick n)

-- the room after the entries
unfoldable pub put_all : List Entry → ℕ → List ℕ → List ℕ
put_all [] n room = room
put_all (e ∷ es) n room = put_all es (tick n) (put_one e n room)

-- A function that appends the entries es to room in which n are: its answer r, and the room that it leaves, last.
pub record Put (es : List Entry) (n : ℕ) (room : List ℕ) (r : ℕ) (last : List ℕ) : Type 0 where
  pub count : r ≡ counted es n
  pub bytes : last ≡ put_all es n room
