-- Stretches of octets, `octets_from s at n`.
--     head_same, tail_same      equal lists, taken apart
--     part_same                 a stretch by equal numbers
--     part_join, part_meet      two stretches that meet
--     part_cut                  a stretch that is two lists, cut where they meet
--     part_first                the first octets of a stretch
-- Assumes nothing.
use mathlib.Core.Path.{◌≡◌, refl, sym, ap, ◌∙◌}
use mathlib.Core.List.{List, [], ◌∷◌, ◌++◌}
use Prim.Native.Nat.{ℕ, zero, suc, ◌+◌, ◌-◌, ◌≤◌}
use native.Mathlib.Omega.{arith}
use lib.ListN.{length, get_or, take, drop}
use Rattle.octets.specs.Octets.{octet_at, octets_from}

pub head_same : (x y : ℕ) (xs ys : List ℕ) → x ∷ xs ≡ y ∷ ys → x ≡ y
head_same x y xs ys e = ap (λ (l : List ℕ). get_or l 0 0) e

pub tail_same : (x y : ℕ) (xs ys : List ℕ) → x ∷ xs ≡ y ∷ ys → xs ≡ ys
tail_same x y xs ys e = ap (λ (l : List ℕ). drop 1 l) e

pub part_same : (s : List ℕ) (at bt m n : ℕ) → at ≡ bt → m ≡ n → octets_from s at m ≡ octets_from s bt n
part_same s at bt m n p q = λ i. octets_from s (p i) (q i)

pub part_join : (s : List ℕ) (at m n : ℕ) → octets_from s at (m + n) ≡ octets_from s at m ++ octets_from s (at + m) n
unfolding octets_from
part_join s at zero n = part_same s at (at + 0) (0 + n) n (omega arith) (omega arith)
part_join s at (suc m) n =
    let e : suc m + n ≡ suc (m + n) = omega arith in
    let f : at + 1 + m ≡ at + suc m = omega arith in
    part_same s at at _ _ refl e
    ∙ ap (λ (l : List ℕ). octet_at s at ∷ l) (part_join s (at + 1) m n ∙ ap (λ (i : ℕ). octets_from s (at + 1) m ++ octets_from s i n) f)

pub part_meet : (s : List ℕ) (at mid end : ℕ) → at ≤ mid → mid ≤ end
    → octets_from s at (mid - at) ++ octets_from s mid (end - mid) ≡ octets_from s at (end - at)
part_meet s at mid end l k =
    let p : mid ≡ at + (mid - at) = omega arith in
    let q : mid - at + (end - mid) ≡ end - at = omega arith in
    (λ i. octets_from s at (mid - at) ++ octets_from s (p i) (end - mid))
    ∙ sym (part_join s at (mid - at) (end - mid)) ∙ part_same s at at _ _ refl q

pub part_cut : (s : List ℕ) (at n : ℕ) (xs ys : List ℕ) → octets_from s at n ≡ xs ++ ys
    → (octets_from s at (length xs) ≡ xs) × (octets_from s (at + length xs) (n - length xs) ≡ ys)
unfolding octets_from
part_cut s at n [] ys e = (refl, part_same s (at + 0) at (n - 0) n (omega arith) (omega arith) ∙ e)
part_cut s at zero (x ∷ xs) ys e = absurd (let f : 0 ≡ suc (length (xs ++ ys)) = ap length e in omega arith)
part_cut s at (suc n) (x ∷ xs) ys e =
    let r = part_cut s (at + 1) n xs ys (tail_same _ _ _ _ e) in
    let p : at + suc (length xs) ≡ at + 1 + length xs = omega arith in
    let q : suc n - suc (length xs) ≡ n - length xs = omega arith in
    ((λ i. head_same _ _ _ _ e i ∷ r.0 i), part_same s _ _ _ _ p q ∙ r.1)

pub part_first : (s : List ℕ) (at m n : ℕ) → m ≤ n → take m (octets_from s at n) ≡ octets_from s at m
unfolding octets_from
part_first s at zero n l = refl
part_first s at (suc m) zero l = absurd (omega arith)
part_first s at (suc m) (suc n) l = ap (λ (bs : List ℕ). octet_at s at ∷ bs) (part_first s (at + 1) m n (omega arith))
