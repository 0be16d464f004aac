-- `octets::equals` meets its contract. Assumes nothing.
use mathlib.Core.Path.{sym, ap, ◌∙◌}
use Rattle.octets.specs.Octets.{octets_from}
use Rattle.octets.specs.Same.{same_by, exactly}
use Rattle.octets.proofs.Laws.Octets.{octets_long, octets_whole}
use Rattle.octets.proofs.Laws.Same.{same_length}
use Rattle.octets.proofs.comparing.equals.Goals as goal

pub returns-then-n-text : goal.returns-then-n-text
returns-then-n-text c = let a = c.args in
    c.same.ensures ∙ ap (same_by exactly (octets_from a.s.now a.at a.n))
    (ap (octets_from a.text.now 0) c.if-n-text.true ∙ octets_whole a.text.now)

pub returns : goal.returns
returns c = let a = c.args in
    sym (same_length exactly (octets_from a.s.now a.at a.n) a.text.now (λ e. c.if-n-text.false (sym (octets_long a.s.now a.at a.n) ∙ e)))
