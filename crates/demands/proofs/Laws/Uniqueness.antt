-- S11: "prove that any two answers allowed by it coincide" (document 01, "How much the contracts must say"), of contracts that are records of equations and
-- have no such law beside them.
--     one_put     what is put in room: count and room
--     one_sink    the functions of rules, which take a sink: its count, its room, and whose the room is
--     one_step    the reader's step: item and room
-- Assumes nothing.
use mathlib.Core.List.{List}
use mathlib.Core.Path.{◌≡◌, sym, ◌∙◌}
use Prim.Native.Nat.{ℕ}
use Rattle.profiles.specs.declared.fields.Profile.{Profile}
use Rattle.report.specs.Putting.{Put}
use Rattle.report.specs.Rows.{Row}
use Rattle.report.specs.Sinks.{SinkPuts}
use Rattle.report.specs.declared.sink.Entry.{Entry}
use Rattle.report.specs.declared.sink.Sink.{Sink}
use Rattle.reader.specs.Stepping.{Stepped}
use Rattle.reader.specs.declared.stepping.Item.{Item}

pub one_put : {es : List Entry} {n r r' : ℕ} {room last last' : List ℕ} → Put es n room r last → Put es n room r' last' → (r ≡ r') × (last ≡ last')
one_put a b = (a.count ∙ sym b.count, a.bytes ∙ sym b.bytes)

pub one_sink : {p : Profile} {rs : List Row} {old new new' : Sink} → SinkPuts p rs old new → SinkPuts p rs old new'
    → (new.count ≡ new'.count) × (new.room.now ≡ new'.room.now) × (new.room.ghost_name ≡ new'.room.ghost_name)
one_sink a b =
    let both = one_put a.puts.put b.puts.put in
    (both.0, both.1, a.same_reference ∙ sym b.same_reference)

pub one_step : {deck room last last' : List ℕ} {position : ℕ} {r r' : Item} → Stepped deck position room r last → Stepped deck position room r' last'
    → (r ≡ r') × (last ≡ last')
one_step a b = (a.told ∙ sym b.told, a.bytes ∙ sym b.bytes)
