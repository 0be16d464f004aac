-- S8: "One byte of a good block changed, two unequal bytes of it before the check exchanged, a block all 00 or all FF: each of these always fails the
-- check" (document 00, demand 3).
--     changed_fails        an octet changed, before the check or in it
--     exchanged_fails      two unequal octets before the check exchanged
--     zeros_fail, ones_fail     all 00, all FF
--     sound_check, sound_length     what a sound block is
-- Assumes nothing.
use mathlib.Core.Path.{◌≡◌, refl, sym, ap, ◌∙◌}
use mathlib.Core.Bool.{Bool, true, false, not}
use mathlib.Core.Logic.{⊎_elim}
use mathlib.Core.List.{List}
use Prim.Native.Nat.{ℕ, zero, suc, ◌+◌, ◌*◌, ◌-◌, ◌%◌, ◌≤◌, ◌<◌}
use native.Mathlib.Nat.{mul-mod_left, mul-le-mul, mul-add}
use native.Mathlib.Omega.{arith}
use lib.Dec.{eqb}
use lib.ListN.{length, get_or, set, take, replicate, length-set}
use lib.Seq.{take-set-le, take-set-lt, get_or-set_same, get_or-set_other, get_or-take, length-take-le}
use borrow.Author.Count.{below_none, below_more}
use borrow.Author.Tests.{eqb-true, eqb-false, not-true}
use Rattle.blocks.specs.Tests.{◌and◌}
use Rattle.blocks.specs.Block.{weigh, check_of, sound}
use Rattle.octets.specs.Octets.{Octets}
use Rattle.octets.specs.Numbers.{pair_at}
use Rattle.blocks.proofs.Laws.Logic.{and_left, and_right, below_or_not}
use Rattle.blocks.proofs.Laws.Weigh.{weigh_set}
use Rattle.blocks.proofs.Laws.Logic

-- none of 2, 3 .. n + 1 divides 65,521
undivided : ℕ → Bool
undivided zero = true
undivided (suc n) = not (eqb (65521 % (n + 2)) 0) and undivided n

undivided_at : (n : ℕ) → undivided n ≡ true → (d : ℕ) → d < n → 65521 % (d + 2) ≡ 0 → ⊥
unfolding undivided
undivided_at zero t d h = below_none (λ d. 65521 % (d + 2) ≡ 0 → ⊥) d h
undivided_at (suc n) t d h =
    below_more (λ d. 65521 % (d + 2) ≡ 0 → ⊥) n
    (undivided_at n (and_right _ _ t))
    (eqb-false _ _ (not-true _ (and_left _ _ t)))
    d (omega arith)

-- so 65,521 is no product of a number up to 510 and one up to 255
no_product : (a d : ℕ) → a ≤ 510 → d ≤ 255 → a * d ≡ 65521 → ⊥
unfolding undivided ◌and◌
no_product a zero ha hd e = omega arith
no_product a (suc zero) ha hd e = omega arith
no_product a (suc (suc k)) ha hd e =
    undivided_at 254 refl k (omega arith)
    (ap (λ (n : ℕ). n % (k + 2)) (sym e ∙ ap (λ (n : ℕ). a * n) (omega arith)) ∙ mul-mod_left a (k + 2))

-- two sums that differ by so little, and not by 65,521, have other remainders
apart : (s t m : ℕ) → t ≡ s + m → 0 < m → m ≤ 130050 → (m ≡ 65521 → ⊥) → (1 + s) % 65521 ≡ (1 + t) % 65521 → ⊥
apart s t m e h₀ h₁ h₂ q = omega arith

-- sums that differ by a times the difference of two unequal octets
pub differ : (s t a x y : ℕ) → 0 < a → a ≤ 510 → x < 256 → y < 256 → (x ≡ y → ⊥) → t + a * y ≡ s + a * x
    → (1 + s) % 65521 ≡ (1 + t) % 65521 → ⊥
differ s t a x y h₀ h₁ hx hy ne e q =
    ⊎_elim (λ l. ordered s t y x hx l e q)
    (λ l. ordered t s x y hy (omega arith) (sym e) (sym q))
    (below_or_not y x)
  where
    ordered : (s t y x : ℕ) → x < 256 → y < x → t + a * y ≡ s + a * x → (1 + s) % 65521 ≡ (1 + t) % 65521 → ⊥
    ordered s t y x hx l e q =
        let d : ℕ = x - y in
        let split : a * x ≡ a * y + a * d = ap (λ (n : ℕ). a * n) (omega arith) ∙ mul-add a y d in
        apart s t (a * d) (omega arith)
        (mul-le-mul {n₁ = 1} {m₁ = 1} {n₂ = a} {m₂ = d} h₀ (omega arith))
        (mul-le-mul {n₁ = a} {m₁ = d} {n₂ = 510} {m₂ = 255} h₁ (omega arith))
        (no_product a d h₁ (omega arith))
        q

-- so the checks of two lists differ whose sums differ so
checks_differ : (xs ys : List ℕ) (a x y : ℕ) → 0 < a → a ≤ 510 → x < 256 → y < 256 → (x ≡ y → ⊥)
    → weigh 1 ys + a * y ≡ weigh 1 xs + a * x → check_of ys ≡ check_of xs → ⊥
unfolding check_of
checks_differ xs ys a x y h₀ h₁ hx hy ne e q = differ (weigh 1 xs) (weigh 1 ys) a x y h₀ h₁ hx hy ne e (sym q)

-- what a sound block tells; and a list of which it does not hold is not sound
pub sound_check : (b : List ℕ) → sound b ≡ true → check_of (take 510 b) ≡ pair_at b 510
unfolding sound
sound_check b h = eqb-true _ _ (and_right _ _ h)

pub sound_length : (b : List ℕ) → sound b ≡ true → length b ≡ 512
unfolding sound
sound_length b h = eqb-true _ _ (and_left _ _ h)

not_sound : (c : List ℕ) → (check_of (take 510 c) ≡ pair_at c 510 → ⊥) → sound c ≡ false
not_sound c h = Logic.not-true (λ t. h (sound_check c t))

-- the sums after two octets u and v, at i and at j, were exchanged
apart_by : (s r t i j a u v : ℕ) → j ≡ i + a → r + (1 + i) * u ≡ s + (1 + i) * v → t + (1 + j) * v ≡ r + (1 + j) * u
    → t + a * v ≡ s + a * u
apart_by s r t i j a u v e f g = omega (arith, ap (λ (n : ℕ). n * v) e, ap (λ (n : ℕ). n * u) e)

apart_by' : (s r t i j a u v : ℕ) → i ≡ j + a → r + (1 + i) * u ≡ s + (1 + i) * v → t + (1 + j) * v ≡ r + (1 + j) * u
    → t + a * u ≡ s + a * v
apart_by' s r t i j a u v e f g = omega (arith, ap (λ (n : ℕ). n * v) e, ap (λ (n : ℕ). n * u) e)

module _ (b : List ℕ) (sb : sound b ≡ true) (ob : Octets b) where
  long : length (take 510 b) ≡ 510
  long = length-take-le 510 b (omega (arith, sound_length b sb))

  at : (i : ℕ) → i < 510 → get_or (take 510 b) i 0 ≡ get_or b i 0
  at i h = get_or-take 510 b i 0 h

  -- octets before the check are set, and the check is as it was
  kept : (i x : ℕ) (c : List ℕ) → i < 510 → pair_at (set c i x) 510 ≡ pair_at c 510
  kept i x c h = rw (get_or-set_other c i 510 x 0 (omega arith), get_or-set_other c i 511 x 0 (omega arith))

  changed_before : (i x : ℕ) → x < 256 → (x ≡ get_or b i 0 → ⊥) → i < 510
      → check_of (take 510 (set b i x)) ≡ pair_at (set b i x) 510 → ⊥
  changed_before i x hx ne h q =
      checks_differ (take 510 b) (set (take 510 b) i x) (1 + i) x (get_or b i 0) (omega arith) (omega arith) hx (ob i) ne
      (rw (at i h) at (weigh_set 1 (take 510 b) i x (omega (arith, long))))
      (rw (take-set-lt 510 b i x h, kept i x b h) at q ∙ sym (sound_check b sb))

  changed_inside : (i x : ℕ) → x < 256 → (x ≡ get_or b i 0 → ⊥) → i < 512 → 510 ≤ i
      → check_of (take 510 (set b i x)) ≡ pair_at (set b i x) 510 → ⊥
  changed_inside i x hx ne h₀ h q =
      let same : pair_at b 510 ≡ pair_at (set b i x) 510 = sym (sound_check b sb) ∙ (rw (take-set-le 510 b i x h) at q) in
      let new : get_or (set b i x) i 0 ≡ x = get_or-set_same b i x 0 (omega (arith, sound_length b sb)) in
      ⊎_elim
      (λ (l : i < 511).
      let e : i ≡ 510 = omega arith in
      omega (arith, ap (λ (n : ℕ). get_or b n 0) e, ap (λ (n : ℕ). get_or (set b i x) n 0) e, get_or-set_other b i 511 x 0 (omega arith)))
      (λ (l : 511 ≤ i).
      let e : i ≡ 511 = omega arith in
      omega (arith, ap (λ (n : ℕ). get_or b n 0) e, ap (λ (n : ℕ). get_or (set b i x) n 0) e, get_or-set_other b i 510 x 0 (omega arith)))
      (below_or_not i 511)

  -- one octet of a sound block changed, before the check or in it
  pub changed_fails : (i x : ℕ) → i < 512 → x < 256 → (x ≡ get_or b i 0 → ⊥) → sound (set b i x) ≡ false
  changed_fails i x hi hx ne =
      not_sound (set b i x) (⊎_elim (changed_before i x hx ne) (changed_inside i x hx ne hi) (below_or_not i 510))

  -- two unequal octets before the check exchanged
  pub exchanged_fails : (i j : ℕ) → i < 510 → j < 510 → (get_or b i 0 ≡ get_or b j 0 → ⊥)
      → sound (set (set b i (get_or b j 0)) j (get_or b i 0)) ≡ false
  exchanged_fails i j hi hj ne =
      let u : ℕ = get_or b i 0 in
      let v : ℕ = get_or b j 0 in
      let xs : List ℕ = take 510 b in
      let ys : List ℕ = set xs i v in
      let zs : List ℕ = set ys j u in
      let i≢j : j ≡ i → ⊥ = λ e. ne (ap (λ (n : ℕ). get_or b n 0) (sym e)) in
      let f : weigh 1 ys + (1 + i) * u ≡ weigh 1 xs + (1 + i) * v =
      rw (at i hi) at (weigh_set 1 xs i v (omega (arith, long))) in
      let g : weigh 1 zs + (1 + j) * v ≡ weigh 1 ys + (1 + j) * u =
      rw (get_or-set_other xs i j v 0 i≢j, at j hj) at (weigh_set 1 ys j u (rw length-set (omega (arith, long)))) in
      not_sound (set (set b i v) j u) (λ q.
      let same : check_of zs ≡ check_of xs =
      rw (take-set-lt 510 (set b i v) j u hj, take-set-lt 510 b i v hi, kept j u (set b i v) hj, kept i v b hi) at q
      ∙ sym (sound_check b sb) in
      ⊎_elim
      (λ (l : i < j). checks_differ xs zs (j - i) u v (omega arith) (omega arith) (ob i) (ob j) ne
      (apart_by (weigh 1 xs) (weigh 1 ys) (weigh 1 zs) i j (j - i) u v (omega arith) f g) same)
      (λ (l : j ≤ i). checks_differ xs zs (i - j) v u (omega arith) (omega arith) (ob j) (ob i) (λ e. ne (sym e))
      (apart_by' (weigh 1 xs) (weigh 1 ys) (weigh 1 zs) i j (i - j) u v (omega arith) f g) same)
      (below_or_not i j))

pub zeros_fail : sound (replicate 512 0) ≡ false
unfolding sound check_of ◌and◌
zeros_fail = refl

pub ones_fail : sound (replicate 512 255) ≡ false
unfolding sound check_of ◌and◌
ones_fail = refl
