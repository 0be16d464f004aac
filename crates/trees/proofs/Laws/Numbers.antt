-- A number in the fewest octets, written and read.
--     number_reads       what is written says the number
--     number_high        its first octet is not 0
--     octets_put         one octet before others
--     number_octets_lem      it is octets
--     number_written     octets of which the first is not 0 are what is written for the number that they say
--     number_fits        a number below 256 ^ k takes k octets at most
--     length_fits        so no list of less than 256 ^ 126 octets is too long for its length to be written
-- Assumes nothing.
use mathlib.Core.Path.{◌≡◌, refl, sym, ap, ◌∙◌}
use mathlib.Core.List.{List, [], ◌∷◌, ◌++◌, append-nil}
use mathlib.Core.Bool.{Bool, true, false}
use Prim.Native.Nat.{ℕ, zero, suc, ◌+◌, ◌*◌, ◌%◌, ◌/◌, ◌^◌, ◌≤◌, ◌<◌}
use native.Mathlib.Nat.{pow-suc}
use native.Mathlib.Omega.{arith}
use lib.ListN.{length}
use lib.Dec.{ltb}
use borrow.Author.Tests.{lt-ltb, le-ltb, ltb-true, ltb-false}
use Rattle.trees.specs.Numbers.{number_by, number_octets}
use Rattle.trees.specs.Trees.{LengthOk}
use Rattle.octets.specs.Octets.{Octets, octet_at}
use Rattle.octets.specs.Numbers.{number_from}
use Rattle.octets.proofs.Laws.Numbers.{number_grows}

pub octets_put : (b : ℕ) (bs : List ℕ) → b < 256 → Octets bs → Octets (b ∷ bs)
octets_put b bs h o zero = h
octets_put b bs h o (suc i) = o i

-- the first octet is below the limit, and the first two say no number that is
abbrev pub Least : ℕ → List ℕ → Type 0
Least limit [] = ⊥
Least limit (a ∷ []) = a < limit
Least limit (a ∷ b ∷ bs) = (a < limit) × (limit ≤ 256 * a + b)

-- what is to come before `after` says n
abbrev Begun : ℕ → ℕ → List ℕ → Type 0
Begun limit n [] = Unit {0}
Begun limit n (b ∷ bs) = limit ≤ 256 * n + b

-- ---- by its size, and by the limit of the first octet

module _ (limit : ℕ) (some : 1 ≤ limit) (most : limit ≤ 256) where
  by_last : (fuel n : ℕ) (after : List ℕ) → n < limit → number_by limit (suc fuel) n after ≡ n ∷ after
  unfolding number_by
  by_last fuel n after h = rw (lt-ltb n limit h, number_by)

  by_more : (fuel n : ℕ) (after : List ℕ) → limit ≤ n → number_by limit (suc fuel) n after ≡ number_by limit fuel (n / 256) (n % 256 ∷ after)
  unfolding number_by
  by_more fuel n after h = rw (le-ltb n limit h, number_by)

  -- what holds of the last step, and of each step if it holds of the next
  module _ (P : ℕ → List ℕ → List ℕ → Type 0)
      (last : (n : ℕ) (after : List ℕ) → n < limit → P n after (n ∷ after))
      (more : (n : ℕ) (after bs : List ℕ) → limit ≤ n → P (n / 256) (n % 256 ∷ after) bs → P n after bs) where
    by_steps : (fuel n : ℕ) (after : List ℕ) → n < fuel → P n after (number_by limit fuel n after)
    by_steps zero n after h = absurd (omega arith)
    by_steps (suc fuel) n after h = go (ltb n limit) refl (by_steps fuel (n / 256) (n % 256 ∷ after))
      where
        go : (b : Bool) → ltb n limit ≡ b
            → (n / 256 < fuel → P (n / 256) (n % 256 ∷ after) (number_by limit fuel (n / 256) (n % 256 ∷ after)))
            → P n after (number_by limit (suc fuel) n after)
        go true e ih = let l = ltb-true n limit e in rw (by_last fuel n after l) (last n after l)
        go false e ih =
            let l = ltb-false n limit e in
            rw (by_more fuel n after l) (more n after (number_by limit fuel (n / 256) (n % 256 ∷ after)) l (ih (omega arith)))

  -- ---- written, then read

  pub by_reads : (n : ℕ) → number_from 0 (number_by limit (suc n) n []) ≡ n
  unfolding number_from
  by_reads n = by_steps (λ n after bs. number_from 0 bs ≡ number_from n after) last more (suc n) n [] (omega arith)
    where
      last : (n : ℕ) (after : List ℕ) → n < limit → number_from 0 (n ∷ after) ≡ number_from n after
      last n after h = let e : 256 * 0 + n ≡ n = omega arith in ap (λ (m : ℕ). number_from m after) e

      more : (n : ℕ) (after bs : List ℕ) → limit ≤ n → number_from 0 bs ≡ number_from (n / 256) (n % 256 ∷ after)
          → number_from 0 bs ≡ number_from n after
      more n after bs h f = let e : 256 * (n / 256) + n % 256 ≡ n = omega arith in f ∙ ap (λ (m : ℕ). number_from m after) e

  pub by_least : (n : ℕ) → Least limit (number_by limit (suc n) n [])
  by_least n = by_steps (λ n after bs. Begun limit n after → Least limit bs) last more (suc n) n [] (omega arith) tt
    where
      last : (n : ℕ) (after : List ℕ) → n < limit → Begun limit n after → Least limit (n ∷ after)
      last n [] h k = h
      last n (b ∷ bs) h k = (h, k)

      more : (n : ℕ) (after bs : List ℕ) → limit ≤ n → (limit ≤ 256 * (n / 256) + n % 256 → Least limit bs) → Begun limit n after
          → Least limit bs
      more n after bs h f k = f (omega arith)

  pub by_octets : (n : ℕ) → Octets (number_by limit (suc n) n [])
  by_octets n =
      by_steps (λ n after bs. Octets after → Octets bs) (λ n after h. octets_put n after (omega arith))
      (λ n after bs h f o. f (octets_put (n % 256) after (omega arith) o))
      (suc n) n [] (omega arith) (λ i. omega arith)

  -- ---- read, then written

  -- more fuel than the number changes nothing
  by_fuel : (f g n : ℕ) (after : List ℕ) → n < f → n < g → number_by limit f n after ≡ number_by limit g n after
  by_fuel zero g n after p q = absurd (omega arith)
  by_fuel (suc f) zero n after p q = absurd (omega arith)
  by_fuel (suc f) (suc g) n after p q = go (ltb n limit) refl (by_fuel f g (n / 256) (n % 256 ∷ after))
    where
      go : (b : Bool) → ltb n limit ≡ b
          → (n / 256 < f → n / 256 < g → number_by limit f (n / 256) (n % 256 ∷ after) ≡ number_by limit g (n / 256) (n % 256 ∷ after))
          → number_by limit (suc f) n after ≡ number_by limit (suc g) n after
      go true e ih = let l = ltb-true n limit e in by_last f n after l ∙ sym (by_last g n after l)
      go false e ih = let l = ltb-false n limit e in by_more f n after l ∙ (ih (omega arith) (omega arith) ∙ sym (by_more g n after l))

  by_next : (fuel v b : ℕ) (after : List ℕ) → limit ≤ 256 * v + b → b < 256 → 256 * v + b < fuel
      → number_by limit fuel (256 * v + b) after ≡ number_by limit fuel v (b ∷ after)
  by_next zero v b after h k l = absurd (omega arith)
  by_next (suc fuel) v b after h k l =
      let p : (256 * v + b) / 256 ≡ v = omega arith in
      let q : (256 * v + b) % 256 ≡ b = omega arith in
      by_more fuel (256 * v + b) after (omega arith)
      ∙ ((λ i. number_by limit fuel (p i) (q i ∷ after)) ∙ by_fuel fuel (suc fuel) v (b ∷ after) (omega arith) (omega arith))

  by_all : (fuel v b : ℕ) (bs after : List ℕ) → b < 256 → Octets bs → limit ≤ 256 * v + b → number_from (256 * v + b) bs < fuel
      → number_by limit fuel (number_from (256 * v + b) bs) after ≡ number_by limit fuel v (b ∷ bs ++ after)
  unfolding number_from
  by_all fuel v b [] after k o h l = by_next fuel v b after h k l
  by_all fuel v b (c ∷ bs) after k o h l =
      let g = number_grows (256 * (256 * v + b) + c) bs in
      by_all fuel (256 * v + b) c bs after (o 0) (λ i. o (suc i)) (omega arith) l ∙ by_next fuel v b (c ∷ bs ++ after) h k (omega arith)

  pub by_written : (bs : List ℕ) → Octets bs → Least limit bs → number_by limit (suc (number_from 0 bs)) (number_from 0 bs) [] ≡ bs
  unfolding number_from
  by_written [] o f = absurd f
  by_written (b ∷ []) o f =
      let e : 256 * 0 + b ≡ b = omega arith in
      ap (λ (v : ℕ). number_by limit (suc v) v []) e ∙ by_last b b [] f
  by_written (b ∷ c ∷ bs) o f =
      let e : 256 * 0 + b ≡ b = omega arith in
      ap (λ (v : ℕ). number_by limit (suc (number_from (256 * v + c) bs)) (number_from (256 * v + c) bs) []) e
      ∙ (by_all (suc (number_from (256 * b + c) bs)) b c bs [] (o 1) (λ i. o (suc (suc i))) f.1 (omega arith)
      ∙ (by_last (number_from (256 * b + c) bs) b (c ∷ bs ++ []) f.0 ∙ ap (λ (l : List ℕ). b ∷ c ∷ l) (append-nil bs)))

-- ---- with no limit but that of an octet

pub number_reads : (n : ℕ) → number_from 0 (number_octets n) ≡ n
number_reads n = by_reads 256 (omega arith) (omega arith) n

pub number_high : (n : ℕ) → 1 ≤ n → octet_at (number_octets n) 0 ≡ 0 → ⊥
number_high n =
    by_steps 256 (omega arith) (omega arith) (λ n after bs. 1 ≤ n → octet_at bs 0 ≡ 0 → ⊥) (λ n after h k e. omega arith)
    (λ n after bs h f k e. f (omega arith) e) (suc n) n [] (omega arith)

pub number_octets_lem : (n : ℕ) → Octets (number_octets n)
number_octets_lem n = by_octets 256 (omega arith) (omega arith) n

pub number_written : (bs : List ℕ) → Octets bs → (octet_at bs 0 ≡ 0 → ⊥) → number_octets (number_from 0 bs) ≡ bs
number_written bs o f = by_written 256 (omega arith) (omega arith) bs o (least bs o f)
  where
    least : (bs : List ℕ) → Octets bs → (octet_at bs 0 ≡ 0 → ⊥) → Least 256 bs
    least [] o f = f refl
    least (b ∷ []) o f = o 0
    least (b ∷ c ∷ bs) o f = (o 0, omega arith)

-- ---- how many octets there are

pub number_fits : (n k : ℕ) → 1 ≤ k → n < 256 ^ k → length (number_octets n) ≤ k
number_fits n k h l =
    let e =
    by_steps 256 (omega arith) (omega arith) (λ n after bs. (k : ℕ) → 1 ≤ k → n < 256 ^ k → length bs ≤ k + length after) last more
    (suc n) n [] (omega arith) k h l in
    omega arith
  where
    last : (n : ℕ) (after : List ℕ) → n < 256 → (k : ℕ) → 1 ≤ k → n < 256 ^ k → suc (length after) ≤ k + length after
    last n after h k p l = omega arith

    more : (n : ℕ) (after bs : List ℕ) → 256 ≤ n
        → ((k : ℕ) → 1 ≤ k → n / 256 < 256 ^ k → length bs ≤ k + suc (length after))
        → (k : ℕ) → 1 ≤ k → n < 256 ^ k → length bs ≤ k + length after
    more n after bs h f zero p l = absurd (omega arith)
    more n after bs h f (suc zero) p l = absurd (omega arith)
    more n after bs h f (suc (suc k)) p l =
        let e : 256 ^ suc (suc k) ≡ 256 ^ suc k * 256 = pow-suc 256 (suc k) in
        let g = f (suc k) (omega arith) (omega arith) in
        omega arith

pub length_fits : (c : List ℕ) → length c < 256 ^ 126 → LengthOk c
length_fits c h = let k = number_fits (length c) 126 (omega arith) h in omega arith
