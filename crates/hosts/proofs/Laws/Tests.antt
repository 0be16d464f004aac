-- A test behind a test: the second is tried only where the first holds.
--     behind, without      the first holds, and x is what the second says; it does not hold
-- Assumes nothing.
use mathlib.Core.Path.{◌≡◌}
use mathlib.Core.Bool.{Bool, true, false, ◌&&◌}

module _ (first : Bool) (second : Bool) where
  pub behind : (x : Bool) → first ≡ true → x ≡ second → x ≡ (first && second)
  behind x e f = rw e f

  pub without : first ≡ false → false ≡ (first && second)
  without e = rw e
