-- Octets that the tests look at: the first that is not 0, and those that are all FF.
-- How the code goes about it: named by contracts of functions that no other crate can call, and by nothing else of `specs/`.
use Rattle.std.specs.Prelude.{List, [], ◌∷◌, Bool, true, cond, ◌&&◌, ℕ, zero, suc, ◌+◌, ◌-◌, eqb}
use Rattle.octets.specs.Octets.{octet_at}

-- the place of the first octet that is not 0, of the n octets from i on
unfoldable pub lead_by : List ℕ → ℕ → ℕ → ℕ
lead_by s i zero = i
lead_by s i (suc n) = cond (eqb (octet_at s i) 0) (lead_by s (i + 1) n) i

abbrev pub lead_of : List ℕ → ℕ → ℕ → ℕ
lead_of s body end = lead_by s body (end - body)

-- whether every octet is 255
unfoldable pub all_ones : List ℕ → Bool
all_ones [] = true
all_ones (b ∷ bs) = eqb b 255 && all_ones bs
