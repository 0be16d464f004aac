-- Bits asked for an octet at a time.
-- How the code goes about it: named by contracts of functions that no other crate can call, and by nothing else of `specs/`.
use Rattle.std.specs.Prelude.{List, Bool, not, ◌&&◌, ℕ, ◌*◌, ◌%◌, length, eqb}
use Rattle.usages.specs.Usage.{bit_at, any_below}

-- whether any bit is set
unfoldable pub any_set : List ℕ → Bool
any_set bits = any_below (bit_at bits) (8 * length bits)

-- the last bit of a is set, and that of b is not
abbrev pub odd_alone : ℕ → ℕ → Bool
odd_alone a b = not (eqb (b % 2) 1) && eqb (a % 2) 1
