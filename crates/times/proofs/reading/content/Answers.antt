-- `times::reading::content` meets its contract. What stands past the end of the contents is 0. Assumes nothing.
use mathlib.Core.Path.{sym, ◌∙◌}
use Rattle.octets.proofs.Laws.Octets.{octets_at}
use Rattle.times.proofs.Laws.Reads.{content_past}
use Rattle.times.proofs.reading.content.Goals as goal

pub returns-then-k-n : goal.returns-then-k-n
returns-then-k-n c = let a = c.args in c.octet_past.ensures ∙ sym (octets_at a.s.now a.body a.n a.k c.if-k-n.true)

pub returns-else-k-n : goal.returns-else-k-n
returns-else-k-n c = let a = c.args in content_past a.s.now a.body a.n a.k c.if-k-n.false
