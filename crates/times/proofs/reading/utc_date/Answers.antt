-- `times::reading::utc_date` meets its contract. Assumes nothing.
use mathlib.Core.Path.{ap, ◌∙◌}
use mathlib.Core.List.{List}
use Prim.Native.Nat.{ℕ}
use native.Mathlib.Omega.{arith}
use Rattle.times.specs.Reads.{date_at, full_year}
use Rattle.octets.specs.Octets.{octets_from}
use Rattle.times.proofs.Laws.Reads.{digit_at}
use Rattle.times.proofs.reading.utc_date.Goals as goal

pub returns : goal.returns
returns c digits =
    let a = c.args in
    let contents : List ℕ = octets_from a.s.now a.body a.n in
    let at = digit_at contents 12 in
    let year = c.two_at.ensures.0 (at 0 digits (omega arith)) (at 1 digits (omega arith)) in
    c.date_at.ensures digits ∙ ap (λ (year : ℕ). date_at 2 year contents) (c.full_year.ensures ∙ ap full_year year)
