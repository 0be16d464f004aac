-- `der::contents::bits_ok` meets its contract. Assumes nothing.
use mathlib.Core.Path.{ap, ◌∙◌}
use Prim.Native.Nat.{ℕ, ◌+◌}
use Rattle.octets.specs.Octets.{octet_at}
use Rattle.der.proofs.Laws.Contents.{bits_law}
use Rattle.der.proofs.contents.bits_ok.Goals as goal

pub returns : goal.returns
returns c =
    let a = c.args in
    bits_law a.s.now a.body a.n c.octet-unused.result c.octet_past-last.result c.low_zero.result c.octet-unused.ensures
    (c.octet_past-last.ensures ∙ ap (λ (k : ℕ). octet_at a.s.now (a.body + k)) c.minus.ensures) c.low_zero.ensures
