-- The members of an element, from the front.
--     children_first      the first of elements, and those after it
--     children_before     the elements before one of them
--     second_is           the second member of an element that has two or more
--     second_none         behind a single one there is none
-- Assumes nothing.
use mathlib.Core.Path.{◌≡◌, refl, sym, ap, ◌∙◌}
use mathlib.Core.List.{List, [], ◌∷◌, ◌++◌}
use mathlib.Core.Bool.{Bool, true, false}
use Prim.Native.Nat.{ℕ, ◌≤◌, ◌<◌}
use native.Mathlib.Omega.{arith}
use lib.Dec.{ltb}
use borrow.Author.Tests.{ltb-true, ltb-false}
use Rattle.der.specs.Header.{head_of, children_of}
use Rattle.der.specs.Members.{missing, members_in, second_in}
use Rattle.der.specs.declared.header.Head.{Head}
use Rattle.der.proofs.Laws.Header.{head_start, head_forward, head_narrow, head_inner}
use Rattle.der.proofs.Laws.Children.{children_done, children_next}

pub record First (s : List ℕ) (at end : ℕ) (h : Head) (hs : List Head) : Type 0 where
  pub some : at < end
  pub is : head_of s at end ≡ h
  pub rest : children_of s (head_of s at end).end end ≡ hs

pub children_first : (s : List ℕ) (at end : ℕ) (h : Head) (hs : List Head) → children_of s at end ≡ h ∷ hs → First s at end h hs
children_first s at end h hs e = go (ltb at end) refl
  where
    go : (t : Bool) → ltb at end ≡ t → First s at end h hs
    go true l =
        let k : head_of s at end ∷ children_of s (head_of s at end).end end ≡ h ∷ hs = sym (children_next s at end (ltb-true at end l)) ∙ e in
        record { some = ltb-true at end l; is = cc k; rest = cc k }
    go false l =
        let k : ◌≡◌ {A = List Head} [] (h ∷ hs) = sym (children_done s at end (ltb-false at end l)) ∙ e in
        let z : ◌≡◌ {A = ℕ} 0 1 = cc k in
        absurd (omega arith)

-- the elements from place at on that start before h are xs
pub record Earlier (s : List ℕ) (at end : ℕ) (h : Head) (xs : List Head) : Type 0 where
  pub low : at ≤ h.at
  pub high : h.at < end
  pub is : children_of s at h.at ≡ xs

pub children_before : (s : List ℕ) (end : ℕ) (h : Head) (ys xs : List Head) (at : ℕ) → children_of s at end ≡ xs ++ (h ∷ ys) → Earlier s at end h xs
children_before s end h ys [] at e =
    let f = children_first s at end h ys e in
    let here : h.at ≡ at = ap (λ (y : Head). y.at) (sym f.is) ∙ head_start s at end in
    record { low = omega (arith, here); high = omega (arith, here, f.some); is = children_done s at h.at (omega (arith, here)) }
children_before s end h ys (x ∷ xs) at e =
    let f = children_first s at end x (xs ++ (h ∷ ys)) e in
    let r = children_before s end h ys xs (head_of s at end).end f.rest in
    let forward = head_forward s at end f.some in
    let high = r.high in
    let same : head_of s at h.at ≡ head_of s at end = head_inner s at end h.at r.low (omega (arith, high)) in
    record {
      low = omega (arith, r.low, forward.0);
      high = high;
      is = children_next s at h.at (omega (arith, r.low, forward.0)) ∙ (λ i. (same ∙ f.is) i ∷ ((λ j. children_of s (same j).end h.at) ∙ r.is) i);
    }

-- where no element is left
at_end : (s : List ℕ) (i end : ℕ) → children_of s i end ≡ [] → i ≤ end → head_of s i end ≡ missing end
at_end s i end e l = go (ltb i end) refl
  where
    go : (t : Bool) → ltb i end ≡ t → head_of s i end ≡ missing end
    go true f =
        let k : head_of s i end ∷ children_of s (head_of s i end).end end ≡ [] = sym (children_next s i end (ltb-true i end f)) ∙ e in
        let z : ◌≡◌ {A = ℕ} 1 0 = cc k in
        absurd (omega arith)
    go false f =
        let q : i ≡ end = (let m = ltb-false i end f in omega arith) in
        ap (λ (k : ℕ). head_of s k end) q ∙ head_narrow s end end (omega arith)

module _ (s : List ℕ) (h x : Head) where
  pub second_is : (g : Head) (gs : List Head) → members_in s h ≡ x ∷ g ∷ gs → second_in s h ≡ g
  second_is g gs e =
      let a = children_first s h.body h.end x (g ∷ gs) e in
      (children_first s (head_of s h.body h.end).end h.end g gs a.rest).is

  pub second_none : members_in s h ≡ x ∷ [] → second_in s h ≡ missing h.end
  second_none e =
      let a = children_first s h.body h.end x [] e in
      at_end s (head_of s h.body h.end).end h.end a.rest (head_forward s h.body h.end a.some).1
