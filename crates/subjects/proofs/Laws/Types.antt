-- An attribute's type.
--     arc_said      the arc that n octets say, by a test of the first two and their number
-- Assumes nothing.
use mathlib.Core.Path.{◌≡◌, refl}
use mathlib.Core.List.{List}
use mathlib.Core.Bool.{Bool, true, false, cond, ◌&&◌}
use Prim.Native.Nat.{ℕ, ◌+◌, ◌-◌}
use native.Mathlib.Omega.{arith}
use lib.Dec.{eqb}
use borrow.Author.Tests.{eqb-true, eqb-false}
use Rattle.subjects.specs.Types.{attribute_types}
use Rattle.octets.specs.Octets.{octet_at, octets_from}
use Rattle.der.specs.Arcs.{arc_below}
use Rattle.der.specs.Oids.{sevens, subidentifier, subidentifiers, oid}
use Rattle.der.proofs.Laws.Arcs.{arc_none}

arc_three : (s : List ℕ) (at : ℕ)
    → cond (eqb (octet_at s at) 85 && eqb (octet_at s (at + 1)) 4) (octet_at s (at + 2)) 0 ≡ arc_below attribute_types (octets_from s at 3)
unfolding octets_from arc_below oid subidentifiers subidentifier sevens
arc_three s at =
    let e : at + 2 ≡ at + 1 + 1 = omega arith in
    rw e (split (eqb (octet_at s at) 85) (eqb (octet_at s (at + 1)) 4) (octet_at s (at + 1 + 1)))
  where
    split : (x y : Bool) (z : ℕ) → cond (x && y) z 0 ≡ cond x (cond y z 0) 0
    split true y z = refl
    split false y z = refl

arc_cases : (s : List ℕ) (at n : ℕ)
    → cond (eqb n 3 && (eqb (octet_at s at) 85 && eqb (octet_at s (at + 1)) 4)) (octet_at s (at + 2)) 0 ≡ arc_below attribute_types (octets_from s at n)
unfolding oid subidentifiers subidentifier sevens
arc_cases s at n = go (eqb n 3) refl
  where
    go : (t : Bool) → eqb n 3 ≡ t
        → cond (t && (eqb (octet_at s at) 85 && eqb (octet_at s (at + 1)) 4)) (octet_at s (at + 2)) 0 ≡ arc_below attribute_types (octets_from s at n)
    go true e = rw (eqb-true n 3 e) (arc_three s at)
    go false e =
        let d = eqb-false n 3 e in
        arc_none attribute_types s at n n (n - 2) refl refl (λ f. d (omega arith))

pub arc_said : (s : List ℕ) (at n a b : ℕ) (t : Bool) → a ≡ octet_at s at → b ≡ octet_at s (at + 1) → (eqb n 3 && (eqb a 85 && eqb b 4)) ≡ t
    → cond t (octet_at s (at + 2)) 0 ≡ arc_below attribute_types (octets_from s at n)
arc_said s at n a b t p q e = rw (← e, p, q) (arc_cases s at n)
