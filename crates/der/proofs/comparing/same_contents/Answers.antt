-- `der::same_contents` meets its contract. Assumes nothing.
use mathlib.Core.Path.{◌∙◌}
use Rattle.octets.specs.Octets.{octets_from}
use Rattle.octets.specs.Same.{exactly, same_by}
use Rattle.der.specs.Comparing.{contents_are}
use Rattle.der.proofs.comparing.same_contents.Goals as goal

pub returns : goal.returns
unfolding contents_are
returns c =
    let a = c.args in
    c.same_stretch.ensures
    ∙ (λ i. same_by exactly (octets_from a.s.now a.a.body (c.minus-n.ensures i))
    (octets_from a.t.now a.b.body (c.minus-m.ensures i)))
