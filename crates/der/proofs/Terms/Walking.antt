-- How a walk goes on: elements one behind the other, and starts that rise.
use mathlib.Core.List.{List, [], ◌∷◌}
use Prim.Native.Nat.{ℕ, suc, ◌≤◌, ◌<◌}
use Rattle.der.specs.Header.{head_of}
use Rattle.der.specs.Elements.{Node}
use Rattle.der.specs.declared.header.Head.{Head}

-- the elements from place at to end: each starts where the one before it ends, and the last ends at end
pub data Chain (s : List ℕ) (end : ℕ) : ℕ → List Head → Type 0 where
  done : Chain s end end []
  next : {at : ℕ} {hs : List Head} → at < end → Chain s end (head_of s at end).end hs → Chain s end at (head_of s at end ∷ hs)

-- numbers from `from` on and below `to`, each above the one before it
pub data Rising : ℕ → ℕ → List ℕ → Type 0 where
  none : {from to : ℕ} → from ≤ to → Rising from to []
  more : {from to x : ℕ} {xs : List ℕ} → from ≤ x → x < to → Rising (suc x) to xs → Rising from to (x ∷ xs)

-- where an element of a walk starts
abbrev pub start_of : Node → ℕ
start_of n = n.head.at
