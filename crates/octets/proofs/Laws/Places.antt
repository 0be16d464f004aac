-- Places.
--     place_ends      an element's place ends where the element ends
-- Assumes nothing.
use mathlib.Core.Path.{◌≡◌}
use Prim.Native.Nat.{ℕ, ◌≤◌}
use native.Mathlib.Omega.{arith}
use Rattle.octets.specs.Numbers.{largest}
use Rattle.octets.specs.Places.{place_from, end_of}

pub place_ends : (start end : ℕ) → start ≤ end → end ≤ largest → end_of (place_from start end) ≡ end
place_ends start end h l = omega arith
