use mathlib.Core.Path.{◌≡◌, sym, ap, ◌∙◌}
use Prim.Native.Nat.{◌-◌}
use native.Mathlib.Omega.{arith}
use Rattle.octets.specs.Octets.{octets_from}
use Rattle.der.specs.Workings.Walk.{and_then}
use Rattle.der.specs.Soundness.{Soundness}
use Rattle.der.proofs.Laws.Header.{head_forward}
use Rattle.der.proofs.Laws.Walks.{element_deep, element_bad, element_plain, element_list, list_begins, list_next, list_done, then_if}
use Rattle.der.proofs.walk.+check_element_check_list.Goals as goal
use Rattle.der.proofs.walk.+check_element_check_list.Goals.{check_list-then-is_err, check_list-else-is_err}

pub check_element-returns-then-depth-eq0 : goal.check_element-returns-then-depth-eq0
check_element-returns-then-depth-eq0 t c =
    let a = c.args in
    sym (element_deep a.s.now a.depth a.h c.if-depth-eq0.true)

pub check_element-returns-then-is_constructed : goal.check_element-returns-then-is_constructed
check_element-returns-then-is_constructed t c =
    let a = c.args in
    c.check_list.ensures ∙ sym (element_list a.s.now a.depth a.h c.element_ok.result c.if-depth-eq0.false
    c.element_ok.ensures c.is_constructed.result c.if-element_ok.true c.is_constructed.ensures
    c.if-is_constructed.true)

pub check_element-returns-then-element_ok : goal.check_element-returns-then-element_ok
check_element-returns-then-element_ok t c =
    let a = c.args in
    sym (element_plain a.s.now a.depth a.h c.element_ok.result c.if-depth-eq0.false c.element_ok.ensures
    c.is_constructed.result c.if-element_ok.true c.is_constructed.ensures c.if-is_constructed.false)

pub check_element-returns : goal.check_element-returns
check_element-returns t c =
    let a = c.args in
    sym (element_bad a.s.now a.depth a.h c.element_ok.result c.if-depth-eq0.false c.element_ok.ensures c.if-element_ok.false)

pub check_list-loop-i-init : goal.check_list-loop-i-init
check_list-loop-i-init t c = let a = c.args in list_begins a.s.now a.depth a.at a.set a.body a.end

pub check_list-loop-i-smaller : goal.check_list-loop-i-smaller
check_list-loop-i-smaller t c =
    let a = c.args in
    let f = head_forward a.s.now c.loop-i.i a.end c.loop-i-test.true in
    rw c.head_at-member.ensures (omega arith)

pub check_list-loop-i-preserved : goal.check_list-loop-i-preserved
check_list-loop-i-preserved t c =
    let a = c.args in
    let next : c.if-is_err.found ≡ and_then c.loop-i.found c.check_element-held.result
    = elim c.if-is_err.branch [
      | check_list-then-is_err w ↦ w.found-is ∙ w.and_then-found.ensures
      | check_list-else-is_err w ↦ then_if c.loop-i.found c.check_element-held.result c.if-is_err.found
          c.is_err.result c.is_err.ensures.value w.if-is_err.false w.found-is
    ] in
    c.loop-i.invariant ∙ list_next a.s.now a.depth a.at a.set a.body a.end c.loop-i.ascends c.loop-i.found
    (octets_from a.s.now c.loop-i.from (c.loop-i.i - c.loop-i.from)) c.loop-i.i c.head_at-member.result c.check_element-held.result
    c.if-is_err.found c.may_follow-ascends.result c.loop-i-test.true c.head_at-member.ensures c.check_element-held.ensures next
    c.may_follow-ascends.ensures

pub check_list-returns : goal.check_list-returns
check_list-returns t c =
    let a = c.args in
    c.and_then.ensures ∙ (ap (λ (o : Soundness). and_then o c.loop-i.found) c.in_order.ensures ∙ sym
    (c.loop-i.invariant ∙ list_done a.s.now a.depth a.at a.set a.body a.end c.loop-i.ascends c.loop-i.found
    (octets_from a.s.now c.loop-i.from (c.loop-i.i - c.loop-i.from)) c.loop-i.i c.loop-i-test.false))
