-- `octets::same_stretch` meets its contract. Assumes nothing.
use mathlib.Core.Path.{sym, ap, ◌∙◌}
use Rattle.octets.specs.Octets.{octets_from}
use Rattle.octets.specs.Same.{same_by, exactly}
use Rattle.octets.proofs.Laws.Octets.{octets_long}
use Rattle.octets.proofs.Laws.Same.{same_length}
use Rattle.octets.proofs.comparing.same_stretch.Goals as goal

pub returns-then-n-m : goal.returns-then-n-m
returns-then-n-m c = let a = c.args in
    c.same.ensures ∙ ap (λ m. same_by exactly (octets_from a.s.now a.a a.n) (octets_from a.t.now a.b m)) c.if-n-m.true

pub returns : goal.returns
returns c = let a = c.args in
    sym (same_length exactly (octets_from a.s.now a.a a.n) (octets_from a.t.now a.b a.m)
    (λ e. c.if-n-m.false (sym (octets_long a.s.now a.a a.n) ∙ (e ∙ octets_long a.t.now a.b a.m))))
