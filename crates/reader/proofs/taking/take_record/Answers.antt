-- `reader::taking::take_record` meets its contract. Assumes nothing.
use mathlib.Core.Path.{sym, ◌∙◌}
use native.Mathlib.Omega.{arith}
use Rattle.reader.proofs.Laws.Found.{start_of}
use Rattle.reader.proofs.Laws.Taking.{takes_record, takes_none, takes_nothing}
use Rattle.reader.proofs.taking.take_record.Goals as goal

pub returns-in_default : goal.returns-in_default
returns-in_default c =
    let a = c.args in
    takes_nothing a.deck.now a.position a.buffer.now (λ number n e. c.in_default.not-Record number n (c.find.ensures ∙ e))

pub returns-then-buffer-n : goal.returns-then-buffer-n
returns-then-buffer-n c =
    let a = c.args in
    let start = start_of a.deck.now a.position _ _ (sym c.find.ensures ∙ c.in-Record.is) in
    takes_none a.deck.now a.position a.buffer.now _ _ start c.if-buffer-n.true

pub lay_out-requires : goal.lay_out-requires
lay_out-requires c = (sym c.find.ensures ∙ c.in-Record.is, omega (arith, c.if-buffer-n.false))

pub returns : goal.returns
returns c =
    let a = c.args in
    let start = start_of a.deck.now a.position _ _ (sym c.find.ensures ∙ c.in-Record.is) in
    takes_record a.deck.now a.position a.buffer.now _ _ start (omega (arith, c.if-buffer-n.false)) _ _ c.lay_out.ensures
