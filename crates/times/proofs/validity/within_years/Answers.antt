-- `times::validity::within_years` meets its contract. Assumes nothing.
use mathlib.Core.Path.{ap, ap₂, ◌∙◌}
use Prim.Native.Nat.{ℕ}
use lib.Dec.{ltb}
use Rattle.times.specs.Calendar.{seconds_of}
use Rattle.times.specs.Anniversary.{anniversary_of}
use Rattle.times.specs.declared.calendar.Date.{Date}
use Rattle.times.proofs.validity.within_years.Goals as goal

pub returns : goal.returns
returns c =
    let years : ℕ = c.args.years in
    ap₂ ltb c.moment.ensures.0
    (c.anniversary.ensures ∙ ap (λ (d : Date). seconds_of (anniversary_of years d)) c.date_of.ensures)
