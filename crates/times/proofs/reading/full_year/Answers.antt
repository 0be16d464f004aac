-- `times::reading::full_year` meets its contract. Assumes nothing.
use borrow.Author.Tests.{lt-ltb, le-ltb}
use Rattle.times.proofs.reading.full_year.Goals as goal

pub returns-then-year-lt50 : goal.returns-then-year-lt50
returns-then-year-lt50 c = rw (lt-ltb _ 50 c.if-year-lt50.true)

pub returns-else-year-lt50 : goal.returns-else-year-lt50
returns-else-year-lt50 c = rw (le-ltb _ 50 c.if-year-lt50.false)
