-- `subjects::types::arc_of` meets its contract. Assumes nothing.
use mathlib.Core.Path.{ap, ◌∙◌}
use mathlib.Core.List.{List}
use Prim.Native.Nat.{ℕ}
use Rattle.octets.specs.Octets.{octets_from}
use Rattle.der.specs.Arcs.{arc_below}
use Rattle.der.specs.Contents.{contents_of}
use Rattle.der.specs.declared.header.Head.{Head}
use Rattle.subjects.specs.Types.{attribute_types, arc_of}
use Rattle.subjects.proofs.types.arc_of.Goals as goal

pub returns : goal.returns
unfolding arc_of
returns c =
    let s : List ℕ = c.args.s.now in
    c.type_arc.ensures
    ∙ ap (λ (n : ℕ). arc_below attribute_types (octets_from s c.first_in-kind.result.body n)) c.minus.ensures
    ∙ ap (λ (h : Head). arc_below attribute_types (contents_of s h)) c.first_in-kind.ensures
