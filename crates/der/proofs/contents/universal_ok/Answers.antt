-- `der::contents::universal_ok` meets its contract. Assumes nothing.
use mathlib.Core.Path.{◌≡◌, sym, ◌∙◌}
use mathlib.Core.Bool.{true, false}
use Rattle.der.specs.Contents.{constructed}
use Rattle.der.proofs.contents.universal_ok.Goals as goal

pub returns-then-is_constructed : goal.returns-then-is_constructed
returns-then-is_constructed c =
    let k : constructed c.args.tag ≡ true = sym c.is_constructed.ensures ∙ c.if-is_constructed.true in
    rw k c.holds_elements.ensures

pub returns : goal.returns
returns c =
    let k : constructed c.args.tag ≡ false = sym c.is_constructed.ensures ∙ c.if-is_constructed.false in
    rw k c.primitive_ok.ensures
