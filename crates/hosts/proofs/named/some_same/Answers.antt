use mathlib.Core.Path.{◌≡◌, refl, sym, ap, ◌∙◌}
use mathlib.Core.List.{List}
use Prim.Native.Nat.{ℕ, ◌+◌, ◌<◌}
use native.Mathlib.Nat.{add-zero, sub-zero}
use native.Mathlib.Omega.{arith}
use Rattle.hosts.specs.Names.{some_named}
use Rattle.octets.specs.Octets.{octet_at, octets_from}
use Rattle.octets.specs.Same.{lower_case}
use Rattle.octets.proofs.Laws.Same.{same_done, same_next, same_apart}
use Rattle.der.specs.Children.{children_left}
use Rattle.hosts.proofs.Laws.Names.{named_skip, named_enter, named_none}
use Rattle.hosts.proofs.named.some_same.Goals as goal

pub names-init : goal.names-init
names-init c =
    let a = c.args in
    let all = ap children_left c.into_iter-name-iterator.ensures.into_iter_gives ∙ c.children_of-name-items.ensures.left in
    (refl, ap (some_named a.s.now (octets_from a.s.now a.a a.n)) (sym all))

pub names-preserved-then-not-name-minus : goal.names-preserved-then-not-name-minus
names-preserved-then-not-name-minus c = (
  c.names.invariant.0,
  c.names.invariant.1 ∙ named_skip _ _ _ _ _ _ c.in-Some.ensures.steps c.minus.ensures c.if-not-name-minus.true,
)

pub loop-k-init : goal.loop-k-init
loop-k-init c = (
  c.names.invariant.0,
  omega arith,
  simp (add-zero, sub-zero) (c.names.invariant.1 ∙ named_enter _ _ _ _ _ _ c.in-Some.ensures.steps
      c.minus.ensures c.if-not-name-minus.false),
)

pub names-preserved : goal.names-preserved
names-preserved c =
    let s : List ℕ = c.args.s.now in
    let left : c.lower_case-x.result ≡ lower_case (octet_at s (c.args.a + c.loop-k.k)) = c.lower_case-x.ensures ∙ ap lower_case c.octet_past.ensures in
    let right : c.lower_case-y.result ≡ lower_case (octet_at s (c.in-Some.name.body + c.loop-k.k)) = c.lower_case-y.ensures ∙ ap lower_case c.octet_past-in-loop-k.ensures in
    let inside : c.loop-k.k < c.args.n = omega arith in
    let apart = same_apart lower_case s s _ _ _ _ _ _ inside left right c.if-x-y.true in
    (c.loop-k.invariant.0, rw apart at c.loop-k.invariant.2)

pub loop-k-preserved : goal.loop-k-preserved
loop-k-preserved c =
    let s : List ℕ = c.args.s.now in
    let left : c.lower_case-x.result ≡ lower_case (octet_at s (c.args.a + c.loop-k.k)) = c.lower_case-x.ensures ∙ ap lower_case c.octet_past.ensures in
    let right : c.lower_case-y.result ≡ lower_case (octet_at s (c.in-Some.name.body + c.loop-k.k)) = c.lower_case-y.ensures ∙ ap lower_case c.octet_past-in-loop-k.ensures in
    let inside : c.loop-k.k < c.args.n = omega arith in
    let next = same_next lower_case s s _ _ _ _ _ _ inside left right c.if-x-y.false in
    (c.loop-k.invariant.0, omega arith, rw next at c.loop-k.invariant.2)

pub returns-in-None : goal.returns-in-None
returns-in-None c = c.names.invariant.0 ∙ sym (c.names.invariant.1 ∙ named_none _ _ c.in-None.ensures.steps.0)

pub returns-then-k-n : goal.returns-then-k-n
returns-then-k-n c =
    let a = c.args in
    let done = same_done lower_case a.s.now a.s.now a.a c.in-Some.name.body a.n c.loop-k.k (omega arith) in
    sym (rw done at c.loop-k.invariant.2)
