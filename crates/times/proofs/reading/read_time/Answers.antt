-- `times::reading::read_time` meets its contract. Assumes nothing.
use mathlib.Core.Path.{ap}
use borrow.Author.Tests.{ne_eqb}
use Rattle.times.specs.Reads.{utc_date, general_date, time_of}
use Rattle.times.specs.declared.validity.Time.TheVariants.{Utc, General}
use Rattle.octets.specs.Octets.{octets_from}
use Rattle.times.proofs.Laws.Reads.{written_law}
use Rattle.times.proofs.reading.read_time.Goals as goal

pub returns-in-23 : goal.returns-in-23
unfolding time_of
returns-in-23 c =
    let a = c.args in
    let contents = octets_from a.s.now a.body a.n in
    let same = written_law 12 contents (Utc c.utc_date.result) (Utc (utc_date contents)) (λ d. ap Utc (c.utc_date.ensures d)) in
    rw (c.in-23.is, ← same, ← c.digits_and_z.ensures) c.if_real.ensures

pub returns-in-24 : goal.returns-in-24
unfolding time_of
returns-in-24 c =
    let a = c.args in
    let contents = octets_from a.s.now a.body a.n in
    let same = written_law 14 contents (General c.general_date.result) (General (general_date contents))
    (λ d. ap General (c.general_date.ensures d)) in
    rw (c.in-24.is, ← same, ← c.digits_and_z-in-24.ensures) c.if_real-in-24.ensures

pub returns-in_default : goal.returns-in_default
unfolding time_of
returns-in_default c = rw (ne_eqb _ 23 c.in_default.in_default-own.rest.0.1, ne_eqb _ 24 c.in_default.in_default-own.rest.1)
