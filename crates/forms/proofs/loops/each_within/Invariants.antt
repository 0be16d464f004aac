-- `forms::loops::each_within` meets its contract. The invariant: what the elements that are left hold is still to be put. Assumes nothing.
use mathlib.Core.List.{List, map}
use Rattle.der.specs.Header.{children_of}
use Rattle.der.specs.Children.{children_left}
use Rattle.der.specs.declared.header.Head.{Head}
use Rattle.forms.specs.Kinds.{of_kind}
use Rattle.forms.specs.Lists.{members_of_each, holder_in}
use Rattle.report.specs.Workings.Forms.{each, is_behind}
use Rattle.report.specs.declared.sink.Entry.{Entry}
use Rattle.report.proofs.Laws.Sinks.{Left}
use Rattle.forms.proofs.loops.each_within.Given as goal

abbrev pub invariant-loop-h : goal.invariant-loop-h
invariant-loop-h l =
    let held : List Head → List Entry = λ hs. each l.rule (is_behind (of_kind l.kind l.p l.s) l.place) (members_of_each l.s (map (holder_in l.nest l.s) hs)) in
    Left (held (children_left l.h-iterator)) (held (children_of l.s l.from l.to)) l.initial.sink l.sink
