-- `lint::linting::report_facts` meets its contract. Assumes nothing.
use mathlib.Core.Bool.{not}
use mathlib.Core.Path.{ap}
use borrow.Author.Rules.{rules}
use Rattle.lint.proofs.Laws.Answers.{reported_short, reported_written, reported_none}
use Rattle.lint.proofs.linting.report_facts.Goals as goal

pub returns-then-not-has_room : goal.returns-then-not-has_room
returns-then-not-has_room c = reported_short _ _ c.pass-count.ensures.put c.has_room.ensures (ap not c.if-not-has_room.true)

pub returns-then-count-gt0 : goal.returns-then-count-gt0
returns-then-count-gt0 c =
    let a = c.args in
    let given = c.slice_known-1.given in
    reported_written _ a.room.now c.pass-count.ensures.put c.has_room.ensures (ap not c.if-not-has_room.false)
    (search (rules, given)) c.pass.ensures.put

pub returns-else-count-gt0 : goal.returns-else-count-gt0
returns-else-count-gt0 c =
    let a = c.args in
    let given = c.slice_known-1.given in
    reported_none _ a.room.now c.pass-count.ensures.put c.has_room.ensures (ap not c.if-not-has_room.false)
    (search (rules, given)) c.if-count-gt0.false
