-- Two tests joined, and a number from one to another. Shut, so that a proof takes a joined test apart with no test written out.
use Rattle.std.specs.Prelude.{Bool, true, false, ℕ, leb}

infixr 30 ◌and◌
unfoldable pub ◌and◌ : Bool → Bool → Bool
◌and◌ true b = b
◌and◌ false b = false

unfoldable pub between : ℕ → ℕ → ℕ → Bool
between least most n = leb least n and leb n most
