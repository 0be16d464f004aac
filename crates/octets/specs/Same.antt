-- When two stretches of octets are the same: octet by octet, or with the case of ASCII letters ignored.
use Rattle.std.specs.Prelude.{List, [], ◌∷◌, Bool, true, false, cond, ◌&&◌, ℕ, ◌+◌, ◌-◌, eqb}
use Prim.Native.Char.{code}
use Rattle.octets.specs.Characters.{is_upper}

-- as many octets here as there, each the same once f has been applied to both
unfoldable pub same_by : (ℕ → ℕ) → List ℕ → List ℕ → Bool
same_by f [] [] = true
same_by f [] (y ∷ ys) = false
same_by f (x ∷ xs) [] = false
same_by f (x ∷ xs) (y ∷ ys) = eqb (f x) (f y) && same_by f xs ys

-- an octet as it is
abbrev pub exactly : ℕ → ℕ
exactly b = b

-- A to Z become a to z
abbrev pub lower_case : ℕ → ℕ
lower_case b = cond (is_upper b) (b + (code "a" - code "A")) b
