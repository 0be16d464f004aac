-- `asn::fitting::set_in_order` meets its contract. Assumes nothing.
use mathlib.Core.Path.{◌∙◌}
use Prim.Native.Nat.{◌/◌, ◌%◌}
use lib.Dec.{eqb}
use Rattle.asn.proofs.Laws.Steps.{judged_before, judged_now}
use Rattle.asn.proofs.fitting.set_in_order.Goals as goal

pub returns-then-row-h : goal.returns-then-row-h
returns-then-row-h c = let a = c.args in judged_before (eqb (a.row / 128 % 2) 0) (eqb a.h.tag 49) _ c.if-row-h.true

pub returns : goal.returns
returns c =
    let a = c.args in
    c.ascending.ensures ∙ judged_now (eqb (a.row / 128 % 2) 0) (eqb a.h.tag 49) _ c.if-row-h.false
