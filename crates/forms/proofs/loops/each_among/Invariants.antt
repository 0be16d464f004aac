-- `forms::loops::each_among` meets its contract. The invariant: the entries of the items that are left are still to be put. Assumes nothing.
use Rattle.der.specs.Header.{children_of}
use Rattle.der.specs.Children.{children_left}
use Rattle.forms.specs.Kinds.{of_kind}
use Rattle.report.specs.Workings.Forms.{each, is_behind}
use Rattle.report.proofs.Laws.Sinks.{Left}
use Rattle.forms.proofs.loops.each_among.Given as goal

abbrev pub invariant-loop-item : goal.invariant-loop-item
invariant-loop-item l =
    let bad = is_behind (of_kind l.kind l.p l.s) l.place in
    Left (each l.rule bad (children_left l.item-iterator)) (each l.rule bad (children_of l.s l.from l.to)) l.initial.sink l.sink
