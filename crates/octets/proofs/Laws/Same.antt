-- Stretches that are compared, whatever f the octets go through first.
--     beside_same                          octet by octet, each tested together with the one beside it
--     same_done, same_next, same_apart     from their kth octets on
--     same_length                          octet lists of different lengths are not the same
--     same_lists, lists_same               exactly the same are equal lists, and the reverse
-- Assumes nothing.
use mathlib.Core.Path.{◌≡◌, refl, ap}
use mathlib.Core.List.{List, [], ◌∷◌}
use mathlib.Core.Bool.{Bool, true, false, ◌&&◌}
use Prim.Native.Nat.{ℕ, zero, suc, ◌+◌, ◌-◌, ◌≤◌, ◌<◌}
use lib.ListN.{length}
use lib.Dec.{eqb}
use borrow.Author.Tests.{eq-eqb, ne_eqb, eqb-true}
use Rattle.std.specs.List.{list_all, zip}
use Rattle.octets.specs.Octets.{octet_at, octets_from}
use Rattle.octets.specs.Same.{same_by, exactly}
use Rattle.octets.proofs.Laws.Tests.{and_l, and_r}
use Rattle.octets.proofs.Laws.Octets.{octets_done, octets_next}

pub beside_same : (f : ℕ → ℕ) (s t : List ℕ) (a b n : ℕ)
    → list_all (λ pair. eqb (f pair.0) (f pair.1)) (zip (octets_from s a n) (octets_from t b n)) ≡ same_by f (octets_from s a n) (octets_from t b n)
unfolding octets_from same_by
beside_same f s t a b zero = refl
beside_same f s t a b (suc n) = ap (λ r. eqb (f (octet_at s a)) (f (octet_at t b)) && r) (beside_same f s t (a + 1) (b + 1) n)

pub same_done : (f : ℕ → ℕ) (s t : List ℕ) (a b n k : ℕ) → n ≤ k → same_by f (octets_from s (a + k) (n - k)) (octets_from t (b + k) (n - k)) ≡ true
unfolding same_by
same_done f s t a b n k h = rw (octets_done s a n k h, octets_done t b n k h)

-- x and y are the kth octets, as they are compared
module _ (f : ℕ → ℕ) (s t : List ℕ) (a b n k x y : ℕ) (h : k < n) (p : x ≡ f (octet_at s (a + k))) (q : y ≡ f (octet_at t (b + k))) where
  pub same_next : x ≡ y
      → same_by f (octets_from s (a + k) (n - k)) (octets_from t (b + k) (n - k)) ≡ same_by f (octets_from s (a + (k + 1)) (n - (k + 1)))
      (octets_from t (b + (k + 1)) (n - (k + 1)))
  unfolding same_by
  same_next e = rw (octets_next s a n k h, octets_next t b n k h, ← p, ← q, eq-eqb x y e)

  pub same_apart : (x ≡ y → ⊥) → same_by f (octets_from s (a + k) (n - k)) (octets_from t (b + k) (n - k)) ≡ false
  unfolding same_by
  same_apart e = rw (octets_next s a n k h, octets_next t b n k h, ← p, ← q, ne_eqb x y e)

pub same_length : (f : ℕ → ℕ) (xs ys : List ℕ) → (length xs ≡ length ys → ⊥) → same_by f xs ys ≡ false
unfolding same_by
same_length f [] [] h = absurd (h refl)
same_length f [] (y ∷ ys) h = refl
same_length f (x ∷ xs) [] h = refl
same_length f (x ∷ xs) (y ∷ ys) h = rw (same_length f xs ys (λ e. h (ap suc e))) (and_no (eqb (f x) (f y)))
  where
    and_no : (b : Bool) → (b && false) ≡ false
    and_no true = refl
    and_no false = refl

pub same_lists : (xs ys : List ℕ) → same_by exactly xs ys ≡ true → xs ≡ ys
unfolding same_by
same_lists [] [] e = refl
same_lists [] (y ∷ ys) e = cc
same_lists (x ∷ xs) [] e = cc
same_lists (x ∷ xs) (y ∷ ys) e =
    let p = eqb-true x y (and_l (eqb x y) (same_by exactly xs ys) e) in
    let q = same_lists xs ys (and_r (eqb x y) (same_by exactly xs ys) e) in
    cc (p, q)

pub lists_same : (f : ℕ → ℕ) (xs : List ℕ) → same_by f xs xs ≡ true
unfolding same_by
lists_same f [] = refl
lists_same f (x ∷ xs) = rw (eq-eqb (f x) (f x) refl, lists_same f xs)
