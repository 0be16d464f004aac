-- The weighted sum that the check is made of.
--     weigh_by                      with any weights
--     Summed, sum_next, sum_all    the sum of the first octets, each product at most m: with one octet more, and with all
--     low, low_parts               with weights modulo 256: 1 to 255, then 0, 1 and on
--     sum_apart                    how far two sums are apart whose weights differ by 1
--     weigh_short, weigh_long      the weighted sum from these two
--     weigh_set                    another octet at a place
-- Assumes nothing.
use mathlib.Core.Path.{◌≡◌, refl, sym, ap, ap₂, ◌∙◌}
use mathlib.Core.Logic.{⊎_elim}
use mathlib.Core.List.{List, [], ◌∷◌, ◌++◌}
use Prim.Native.Nat.{ℕ, zero, suc, ◌+◌, ◌*◌, ◌%◌, ◌≤◌, ◌<◌}
use native.Mathlib.Nat.{le_of_suc-le-suc, not-suc-le-zero, add-zero}
use native.Mathlib.Numerals.{add-one}
use native.Mathlib.Omega.{arith}
use lib.ListN.{length, get_or, set, take, drop, length-take, length-drop, take-append-drop, drop_of_length-le}
use lib.Seq.{take-suc, take_all, length-take-le}
use Rattle.std.specs.Prelude.{sum}
use Rattle.std.proofs.lemmas.List.Sums.{sum_by-cons}
use Rattle.blocks.specs.Block.{weigh}
use Rattle.blocks.proofs.Laws.Logic.{below_or_not}

-- ---- any weights: f w for the first octet, f (w + 1) for the second, and so on

abbrev pub weigh_by : (ℕ → ℕ) → ℕ → List ℕ → ℕ
weigh_by f w [] = 0
weigh_by f w (x ∷ xs) = f w * x + weigh_by f (suc w) xs

module _ (f : ℕ → ℕ) where
  by_append : (w : ℕ) (xs ys : List ℕ) → weigh_by f w (xs ++ ys) ≡ weigh_by f w xs + weigh_by f (w + length xs) ys
  by_append w [] ys =
      let e : w ≡ w + 0 = omega arith in
      omega (arith, ap (λ (v : ℕ). weigh_by f v ys) e)
  by_append w (x ∷ xs) ys =
      let e : suc w + length xs ≡ w + suc (length xs) = omega arith in
      omega (arith, by_append (suc w) xs ys, ap (λ (v : ℕ). weigh_by f v ys) e)

  by_take : (b : List ℕ) (i : ℕ) → i < length b → weigh_by f 1 (take (i + 1) b) ≡ weigh_by f 1 (take i b) + f (1 + i) * get_or b i 0
  by_take b i h =
      rw (add-one i, take-suc b i 0, by_append, length-take-le i b (omega arith))
      (omega arith)

  abbrev pub Summed : ℕ → List ℕ → ℕ → ℕ → Type 0
  Summed m b i sum = (i ≤ length b) × (sum ≡ weigh_by f 1 (take i b)) × (sum ≤ m * i)

  module _ (m : ℕ) (b : List ℕ) {i sum : ℕ} (so_far : Summed m b i sum) where
    pub sum_next : (x : ℕ) → i < length b → x ≡ f (1 + i) * get_or b i 0 → x ≤ m → Summed m b (i + 1) (sum + x)
    sum_next x h e l = (omega arith, omega (arith, by_take b i h), omega arith)

    pub sum_all : length b ≤ i → sum ≡ weigh_by f 1 b
    sum_all h = rw (take_all i b h) at so_far.1

-- by the weights that are met
by_same : (f g : ℕ → ℕ) (w v : ℕ) (xs : List ℕ) → ((i : ℕ) → i < length xs → f (w + i) ≡ g (v + i)) → weigh_by f w xs ≡ weigh_by g v xs
by_same f g w v [] h = refl
by_same f g w v (x ∷ xs) h =
    ap₂ (λ (m n : ℕ). m * x + n)
    (rw (add-zero w, add-zero v) at (h 0 (omega arith)))
    (by_same f g (suc w) (suc v) xs (λ i l.
    let e : w + suc i ≡ suc w + i = omega arith in
    let e' : v + suc i ≡ suc v + i = omega arith in
    ap f (sym e) ∙ h (suc i) (omega arith) ∙ ap g e'))

weigh_by_lem : (w : ℕ) (xs : List ℕ) → weigh w xs ≡ weigh_by (λ n. n) w xs
weigh_by_lem w [] = refl
weigh_by_lem w (x ∷ xs) = ap (λ (n : ℕ). w * x + n) (weigh_by_lem (suc w) xs)

-- ---- as the code adds up

abbrev pub low : ℕ → List ℕ → ℕ
low w xs = weigh_by (λ n. n % 256) w xs

module _ (b : List ℕ) where
  abbrev front : List ℕ
  front = take 255 b

  abbrev back : List ℕ
  back = drop 255 b

  cut : (f : ℕ → ℕ) → weigh_by f 1 b ≡ weigh_by f 1 front + weigh_by f (1 + length front) back
  cut f = ap (λ (l : List ℕ). weigh_by f 1 l) (sym (take-append-drop 255 b)) ∙ by_append f 1 front back

  pub low_parts : length b ≤ 510 → low 1 b ≡ weigh 1 front + weigh 0 back
  low_parts h = rw (weigh_by_lem 1 front, weigh_by_lem 0 back) (cut (λ n. n % 256) ∙ ap₂ (λ (m n : ℕ). m + n) first (⊎_elim short long (below_or_not (length b) 255)))
    where
      first : low 1 front ≡ weigh_by (λ n. n) 1 front
      first = by_same (λ n. n % 256) (λ n. n) 1 1 front (λ i l. let k = length-take 255 b in omega arith)

      short : length b < 255 → low (1 + length front) back ≡ weigh_by (λ n. n) 0 back
      short l = rw (drop_of_length-le b {i = 255} (omega arith))

      long : 255 ≤ length b → low (1 + length front) back ≡ weigh_by (λ n. n) 0 back
      long l =
          by_same (λ n. n % 256) (λ n. n) (1 + length front) 0 back
          (λ i k. let d = length-drop 255 b in let e = length-take-le 255 b l in omega arith)

weigh_more : (m w : ℕ) (xs : List ℕ) → weigh (m + w) xs ≡ weigh w xs + m * sum xs
weigh_more m w [] = omega arith
weigh_more m w (x ∷ xs) =
    let e : suc (m + w) ≡ m + suc w = omega arith in
    rw (sum_by-cons (λ n. n) x xs) (omega (arith, weigh_more m (suc w) xs, ap (λ (u : ℕ). weigh u xs) e))

pub sum_apart : (xs : List ℕ) → weigh 1 xs ≡ weigh 0 xs + sum xs
sum_apart xs = omega (arith, weigh_more 1 0 xs)

pub weigh_short : (b : List ℕ) → length b ≤ 255 → weigh 1 (take 255 b) + weigh 0 (drop 255 b) ≡ weigh 1 b
weigh_short b h = rw (take_all 255 b h, drop_of_length-le b h) (omega arith)

pub weigh_long : (b : List ℕ) (high : ℕ) → 255 ≤ length b → weigh 1 (drop 255 b) ≡ weigh 0 (drop 255 b) + high
    → weigh 1 (take 255 b) + weigh 0 (drop 255 b) + 256 * high ≡ weigh 1 b
weigh_long b high h e =
    let n : 1 + length (take 255 b) ≡ 256 = omega (arith, length-take-le 255 b h) in
    let whole : weigh 1 b ≡ weigh 1 (take 255 b) + weigh 256 (drop 255 b) =
    rw (weigh_by_lem 1 b, weigh_by_lem 1 (take 255 b), weigh_by_lem 256 (drop 255 b))
    (cut b (λ n. n) ∙ ap (λ (v : ℕ). weigh_by (λ n. n) 1 (take 255 b) + weigh_by (λ n. n) v (drop 255 b)) n) in
    omega (arith, whole, weigh_more 256 0 (drop 255 b), sum_apart (drop 255 b))

-- another octet at i
pub weigh_set : (w : ℕ) (b : List ℕ) (i x : ℕ) → i < length b → weigh w (set b i x) + (w + i) * get_or b i 0 ≡ weigh w b + (w + i) * x
weigh_set w [] i x h = absurd (not-suc-le-zero h)
weigh_set w (y ∷ ys) zero x h = omega arith
weigh_set w (y ∷ ys) (suc i) x h = omega (arith, weigh_set (suc w) ys i x (le_of_suc-le-suc h))
