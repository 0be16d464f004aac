-- The arc of an object identifier below another, by what is read of it.
--     arc_none      not one octet is left
--     arc_read      one is, and the octets before it decide
-- Assumes nothing.
use mathlib.Core.Path.{◌≡◌, refl, sym, ap, ◌∙◌}
use mathlib.Core.List.{List, [], ◌∷◌}
use mathlib.Core.Bool.{Bool, true, false, cond, ◌&&◌}
use Prim.Native.Nat.{ℕ, zero, suc, ◌+◌, ◌-◌}
use native.Mathlib.Omega.{arith}
use native.Mathlib.Nat.{add-zero}
use lib.ListN.{length}
use lib.Dec.{eqb}
use Rattle.der.specs.Arcs.{arc_below}
use Rattle.octets.specs.Octets.{octet_at, octets_from}
use Rattle.octets.specs.Same.{same_by, exactly}

other_size : (arcs s : List ℕ) (at n : ℕ) → (n - length arcs ≡ 1 → ⊥) → 0 ≡ arc_below arcs (octets_from s at n)
unfolding arc_below octets_from
other_size [] s at zero d = refl
other_size [] s at (suc zero) d = absurd (d refl)
other_size [] s at (suc (suc n)) d = refl
other_size (a ∷ arcs) s at zero d = refl
other_size (a ∷ arcs) s at (suc n) d = go (other_size arcs s (at + 1) n (λ e. d (omega arith))) (eqb (octet_at s at) a)
  where
    go : 0 ≡ arc_below arcs (octets_from s (at + 1) n) → (t : Bool) → 0 ≡ cond t (arc_below arcs (octets_from s (at + 1) n)) 0
    go ih true = ih
    go ih false = refl

one_more_lem : (arcs s : List ℕ) (at n : ℕ) → n - length arcs ≡ 1
    → cond (same_by exactly (octets_from s at (length arcs)) arcs) (octet_at s (at + length arcs)) 0 ≡ arc_below arcs (octets_from s at n)
unfolding arc_below octets_from same_by
one_more_lem [] s at zero e = absurd (omega arith)
one_more_lem [] s at (suc zero) e = ap (octet_at s) (add-zero at)
one_more_lem [] s at (suc (suc n)) e = absurd (omega arith)
one_more_lem (a ∷ arcs) s at zero e = absurd (omega arith)
one_more_lem (a ∷ arcs) s at (suc n) e = go (one_more_lem arcs s (at + 1) n (omega arith)) (eqb (octet_at s at) a)
  where
    go : cond (same_by exactly (octets_from s (at + 1) (length arcs)) arcs) (octet_at s (at + 1 + length arcs)) 0 ≡ arc_below arcs (octets_from s (at + 1) n)
        → (t : Bool)
        → cond (t && same_by exactly (octets_from s (at + 1) (length arcs)) arcs) (octet_at s (at + suc (length arcs))) 0
        ≡ cond t (arc_below arcs (octets_from s (at + 1) n)) 0
    go ih true = let q : at + suc (length arcs) ≡ at + 1 + length arcs = omega arith in rw q ih
    go ih false = refl

-- m is the number of octets, left how many more they are than the first ones
module _ (arcs s : List ℕ) (at n m left : ℕ) (e : m ≡ n) (f : left ≡ m - length arcs) where
  pub arc_none : (left ≡ 1 → ⊥) → 0 ≡ arc_below arcs (octets_from s at n)
  arc_none d = other_size arcs s at n (λ k. d (f ∙ (ap (λ (x : ℕ). x - length arcs) e ∙ k)))

  pub arc_read : (begins : Bool) → left ≡ 1 → begins ≡ same_by exactly (octets_from s at (length arcs)) arcs
      → cond begins (octet_at s (at + length arcs)) 0 ≡ arc_below arcs (octets_from s at n)
  arc_read begins d g = rw g (one_more_lem arcs s at n (sym (f ∙ ap (λ (x : ℕ). x - length arcs) e) ∙ d))
