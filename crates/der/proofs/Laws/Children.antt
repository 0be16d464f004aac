-- The elements of a part: `children_of` opens at its front, whatever its fuel.
--     children_done      none left
--     children_next      the first, and those after it
--     children_front     the same, where the first is h
-- Assumes nothing.
use mathlib.Core.Path.{◌≡◌, refl, sym, ap, ◌∙◌}
use mathlib.Core.List.{List, [], ◌∷◌}
use mathlib.Core.Bool.{Bool, true, false}
use Prim.Native.Nat.{ℕ, zero, suc, ◌+◌, ◌-◌, ◌≤◌, ◌<◌}
use native.Mathlib.Omega.{arith}
use lib.Dec.{ltb}
use borrow.Author.Tests.{lt-ltb, le-ltb, ltb-true, ltb-false}
use Rattle.der.specs.Header.{head_of, children_by, children_of}
use Rattle.der.specs.declared.header.Head.{Head}
use Rattle.der.proofs.Laws.Header.{head_forward}

by_next : (s : List ℕ) (n at end : ℕ) → at < end → children_by s (suc n) at end ≡ head_of s at end ∷ children_by s n (head_of s at end).end end
unfolding children_by
by_next s n at end h = rw (lt-ltb at end h, children_by)

by_done : (s : List ℕ) (n at end : ℕ) → end ≤ at → children_by s n at end ≡ []
unfolding children_by
by_done s zero at end h = refl
by_done s (suc n) at end h = rw (le-ltb at end h, children_by)

-- more fuel than there are octets changes nothing
children_fuel : (s : List ℕ) (m n at end : ℕ) → end - at ≤ m → end - at ≤ n → children_by s m at end ≡ children_by s n at end
children_fuel s zero n at end p q = by_done s zero at end (omega arith) ∙ sym (by_done s n at end (omega arith))
children_fuel s (suc m) zero at end p q = by_done s (suc m) at end (omega arith) ∙ sym (by_done s zero at end (omega arith))
children_fuel s (suc m) (suc n) at end p q = go (λ e. children_fuel s m n e end) (ltb at end) refl
  where
    go : ((e : ℕ) → end - e ≤ m → end - e ≤ n → children_by s m e end ≡ children_by s n e end) → (b : Bool) → ltb at end ≡ b
        → children_by s (suc m) at end ≡ children_by s (suc n) at end
    go ih true e =
        let h = ltb-true at end e in
        let f = head_forward s at end h in
        by_next s m at end h ∙ (ap (λ (l : List Head). head_of s at end ∷ l) (ih (head_of s at end).end (omega arith) (omega arith)) ∙ sym
        (by_next s n at end h))
    go ih false e = by_done s (suc m) at end (ltb-false at end e) ∙ sym (by_done s (suc n) at end (ltb-false at end e))

pub children_done : (s : List ℕ) (at end : ℕ) → end ≤ at → children_of s at end ≡ []
unfolding children_of
children_done s at end h = by_done s (end - at) at end h

pub children_next : (s : List ℕ) (at end : ℕ) → at < end → children_of s at end ≡ head_of s at end ∷ children_of s (head_of s at end).end end
unfolding children_of
children_next s at end h =
    let f = head_forward s at end h in
    let e : end - at ≡ suc (end - (at + 1)) = omega arith in
    ap (λ (n : ℕ). children_by s n at end) e
    ∙ (by_next s (end - (at + 1)) at end h
    ∙ ap (λ (l : List Head). head_of s at end ∷ l) (children_fuel s (end - (at + 1)) (end - (head_of s at end).end) (head_of s at end).end end
    (omega arith) (omega arith)))

-- where the first is h
pub children_front : (s : List ℕ) (at end : ℕ) (h : Head) → at < end → h ≡ head_of s at end → children_of s at end ≡ h ∷ children_of s h.end end
children_front s at end h l e = children_next s at end l ∙ ap (λ (g : Head). g ∷ children_of s g.end end) (sym e)
