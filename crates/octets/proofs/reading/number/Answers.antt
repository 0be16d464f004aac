use mathlib.Core.Path.{◌≡◌, ap, ◌∙◌}
use Prim.Native.Nat.{◌+◌, ◌<◌, ◌≤◌}
use native.Mathlib.Nat.{add-zero, sub-zero}
use native.Mathlib.Omega.{arith}
use Rattle.octets.specs.Octets.{octet_at}
use Rattle.octets.proofs.Laws.Numbers.{number_done, number_next}
use Rattle.octets.proofs.reading.number.Goals as goal

pub loop-k-init : goal.loop-k-init
loop-k-init c = (omega arith, simp (add-zero, sub-zero))

pub overflow_add-from : goal.overflow_add-from
overflow_add-from c = omega arith

pub loop-k-preserved : goal.loop-k-preserved
loop-k-preserved c = let x = c.args in
    let e = c.written_on-value.ensures in
    let h : c.loop-k.k < x.n = omega (arith, c.from-k-end.ensures) in
    let i : x.at + (c.from-from.result + c.loop-k.k) ≡ x.at + x.skip + c.loop-k.k = omega (arith, c.from-from.ensures) in (
      omega arith,
      c.loop-k.invariant.1 ∙ number_next x.s.now (x.at + x.skip) x.n c.loop-k.k c.loop-k.value c.written_on-value.result
          c.octet_past.result h (c.octet_past.ensures ∙ ap (octet_at x.s.now) i) e,
    )

pub returns : goal.returns
returns c = let x = c.args in
    let h : x.n ≤ c.loop-k.k = omega (arith, c.from-k-end.ensures) in
    let e = number_done x.s.now (x.at + x.skip) x.n c.loop-k.k c.loop-k.value h in
    rw (c.loop-k.invariant.1, e) (omega arith)
