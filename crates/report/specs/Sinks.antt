-- What a function does that takes a sink: `Put` and `Puts`, of the sink's count and the room behind its reference, which stays that of the caller.
use Rattle.std.specs.Prelude.{List, ◌≡◌, ℕ}
use Rattle.std.specs.Borrow.{MutBor}
use Rattle.report.specs.declared.sink.Entry.{Entry}
use Rattle.report.specs.declared.sink.Sink.{Sink}
use Rattle.report.specs.Putting.{Put}
use Rattle.report.specs.Rows.{Row, Puts}
use Rattle.profiles.specs.declared.fields.Profile.{Profile}

-- a new sink over lent room
pub record IsOver (room : MutBor (List ℕ)) (sink : Sink) : Type 0 where
  pub empty : sink.count ≡ 0
  pub bytes : sink.room.now ≡ room.now
  pub same_reference : sink.room.ghost_name ≡ room.ghost_name

-- entries were appended
pub record SinkPut (es : List Entry) (old new : Sink) : Type 0 where
  pub put : Put es old.count old.room.now new.count new.room.now
  pub same_reference : new.room.ghost_name ≡ old.room.ghost_name

-- the entries of these rules, in profile p
pub record SinkPuts (p : Profile) (rs : List Row) (old new : Sink) : Type 0 where
  pub puts : Puts p rs old.count old.room.now new.count new.room.now
  pub same_reference : new.room.ghost_name ≡ old.room.ghost_name
