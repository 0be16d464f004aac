-- The findings in lent room: "Room is short when 6 bytes a finding exceed the lent length" (document 01, "Refusals and their order"), where 7 now "compares 8
-- octets a finding" (document 02, CR 3), and "Bytes after the last are untouched" ("The report").
use Rattle.std.specs.Prelude.{List, ◌++◌, Bool, cond, ℕ, ◌*◌, leb, length, drop}
use Rattle.report.specs.declared.sink.Entry.{Entry}
use Rattle.report.specs.Entries.{width, report_octets}

-- the room is not short
abbrev pub enough_room : List Entry → List ℕ → Bool
enough_room es room = leb (width * length es) (length room)

-- the room at the end: the findings' octets and the rest of the room, or the room as it was if it is short
unfoldable pub filled : List Entry → List ℕ → List ℕ
filled es room = cond (enough_room es room) (report_octets es ++ drop (width * length es) room) room
