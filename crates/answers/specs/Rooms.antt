-- What the room that is lent for an answer holds then (src/main.rt says what a frame holds). It is what stands behind the line of the answer.
use Rattle.std.specs.Prelude.{cond, List, [], ◌∷◌, ◌++◌, ℕ, zero, suc, ◌+◌, ◌%◌, min, leb, length, take, drop}
use Rattle.octets.specs.Octets.{octet_at, octets_from}
use Rattle.octets.specs.Numbers.{number_of, pair_at, quad_at, largest}
use Rattle.lint.specs.Answers.{room_of}
use Rattle.writer.specs.Answers.{write_room}
use Rattle.reader.specs.Events.{Event, events}
use Rattle.reader.specs.Stepping.{room_after}

-- n octets from place i on, of which that at a place is the place modulo 251
abbrev pub pattern_from : ℕ → ℕ → List ℕ
pattern_from i zero = []
pattern_from i (suc n) = (i % 251) ∷ pattern_from (suc i) n

-- a room of n octets before a call
abbrev pub fresh_room : ℕ → List ℕ
fresh_room n = pattern_from 0 n

-- ---- a call that a frame asks for. From place `at` on stand the profile, the room's length in three octets, the certificate's in two, the
-- certificate, and as the rest the issuer

abbrev pub size_in : List ℕ → ℕ → ℕ
size_in frame at = min (number_of (octets_from frame (at + 1) 3)) largest

abbrev pub cut_in : List ℕ → ℕ → ℕ
cut_in frame at = at + 6 + pair_at frame (at + 4)

abbrev pub framed_certificate : List ℕ → ℕ → List ℕ
framed_certificate frame at = take (pair_at frame (at + 4)) (drop (at + 6) frame)

abbrev pub framed_issuer : List ℕ → ℕ → List ℕ
framed_issuer frame at = drop (cut_in frame at) frame

-- the room then, where `used` is what the call leaves in the part that is lent to it: as it was where the frame is too short for its own lengths or
-- asks for more room than there is
unfoldable pub room_around : List ℕ → ℕ → List ℕ → List ℕ → List ℕ
room_around frame at used room =
    cond (leb (cut_in frame at) (length frame)) (cond (leb (size_in frame at) (length room)) (used ++ drop (size_in frame at) room) room) room

-- kind 12, the linter's
abbrev pub room_of_call : List ℕ → List ℕ → List ℕ
room_of_call frame room =
    room_around frame 0 (room_of (framed_certificate frame 0) (framed_issuer frame 0) (octet_at frame 0) (fresh_room (size_in frame 0))) room

-- kind 13, the writer's: the record's number in four octets, and then the same
abbrev pub room_of_writing : List ℕ → List ℕ → List ℕ
room_of_writing frame room =
    room_around frame 4
    (write_room (quad_at frame 0) (octet_at frame 4) (framed_certificate frame 4) (framed_issuer frame 4) (fresh_room (size_in frame 4))) room

-- ---- a deck, kind 14: the room is lent again at each step

abbrev pub room_past : List ℕ → List Event → List ℕ
room_past room [] = room
room_past room (e ∷ es) = room_past (room_after room e) es

abbrev pub room_of_deck : List ℕ → List ℕ → List ℕ
room_of_deck deck room = room_past (fresh_room (length room)) (events deck)
