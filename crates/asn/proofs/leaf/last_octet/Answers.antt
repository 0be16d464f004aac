-- `asn::leaf::last_octet` meets its contract. Assumes nothing.
use mathlib.Core.Path.{ap, ◌∙◌}
use Prim.Native.Nat.{ℕ, ◌+◌}
use Rattle.octets.specs.Octets.{octet_at}
use Rattle.asn.proofs.leaf.last_octet.Goals as goal

pub returns : goal.returns
returns c =
    let a = c.args in
    c.octet_past.ensures ∙ ap (λ (k : ℕ). octet_at a.s.now (a.body + k)) c.minus.ensures
