-- Items one behind the other.
use mathlib.Core.List.{List, [], ◌∷◌}
use Prim.Native.Nat.{ℕ, ◌≤◌, ◌<◌}
use Rattle.report.specs.Order.{In}
use Rattle.der.specs.declared.header.Head.{Head}

-- each item has an octet at least, and ends before those behind it start
pub data Apart : List Head → Type 0 where
  no_items : Apart []
  more_items : {h : Head} {hs : List Head} → h.at < h.end → ((g : Head) → In g hs → h.end ≤ g.at) → Apart hs → Apart (h ∷ hs)

-- each item has an octet at least, and lies in the octets from `from` on and before `to`
abbrev pub LieBetween : ℕ → ℕ → List Head → Type 0
LieBetween from to hs = (h : Head) → In h hs → (from ≤ h.at) × (h.at < h.end) × (h.end ≤ to)
