-- Object identifiers one arc below another. The contents of an OBJECT IDENTIFIER are the octets of its arcs, one behind the other (X.690, 8.19), and an
-- arc below 128 is one octet: an identifier one such arc below another has the other's octets, and this octet behind them.
use Rattle.std.specs.Prelude.{List, [], ◌∷◌, cond, ℕ, eqb}

-- the one octet behind these first ones; 0 if the contents are others, or if not one octet is left
unfoldable pub arc_below : List ℕ → List ℕ → ℕ
arc_below [] [] = 0
arc_below [] (n ∷ []) = n
arc_below [] (n ∷ m ∷ cs) = 0
arc_below (a ∷ arcs) [] = 0
arc_below (a ∷ arcs) (c ∷ cs) = cond (eqb c a) (arc_below arcs cs) 0
