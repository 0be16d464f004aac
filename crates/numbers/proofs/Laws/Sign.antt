-- The sign of an INTEGER.
--     positive_is         by its first octet, and the place of the first that is not 0
--     positive_number     a positive INTEGER is the number that its octets say
-- Assumes nothing.
use mathlib.Core.Path.{◌≡◌, refl, sym, ap, ◌∙◌}
use mathlib.Core.List.{List}
use mathlib.Core.Bool.{false≢true, Bool, true, false, cond, ◌&&◌}
use Prim.Native.Nat.{ℕ, zero, suc, ◌+◌, ◌-◌, ◌*◌, ◌^◌, ◌<◌}
use native.Mathlib.Nat.{mul-le-mul_right}
use native.Mathlib.Omega.{arith}
use lib.ListN.{length}
use lib.Pow.{pow-add, pow_pos}
use lib.Dec.{ltb}
use lib.IntN.{pos, sub_ℕ}
use borrow.Author.Tests.{lt-ltb, ltb-true, ltb-false}
use Rattle.numbers.specs.Numbers.{number, is_positive}
use Rattle.numbers.specs.Workings.Leading.{lead_of}
use Rattle.octets.specs.Octets.{Octets, octet_at, octets_from}
use Rattle.octets.specs.Numbers.{number_from}
use Rattle.octets.proofs.Laws.Octets.{octets_long}
use Rattle.der.specs.Integers.{integer_of}
use Rattle.numbers.proofs.Laws.Values.{ltb_same, octets_none, octets_first, pow_octet, number_top, number_below, number_none}
use Rattle.numbers.proofs.Laws.Leading.{leads}

pow_256 : (n : ℕ) → 256 ^ n ≡ 2 ^ (8 * n)
pow_256 zero = refl
pow_256 (suc n) =
    let e : suc n ≡ 1 + n = omega arith in
    ap (λ (m : ℕ). 256 ^ m) e ∙ pow-add 256 1 n ∙ ap (λ (m : ℕ). 256 * m) (pow_256 n) ∙ sym (pow_octet n)

-- p is the place of the first octet that is not 0
module _ (s : List ℕ) (body end p : ℕ) (h : Octets s) (e : p ≡ lead_of s body end) where
  some_octet : p < end → 0 < number s p end
  some_octet l =
      rw (number_top s p end l)
      (omega (arith, mul-le-mul_right (2 ^ (8 * (end - (p + 1)))) ((leads s body end p e).above l), pow_pos (8 * (end - (p + 1)))))

  -- such an octet is there exactly if the number is not 0
  above_zero : ltb p end ≡ ltb 0 (number s body end)
  above_zero = rw (← (leads s body end p e).same) (ltb_same p end 0 (number s p end) some_octet (λ v. back v (ltb p end) refl))
    where
      back : 0 < number s p end → (t : Bool) → ltb p end ≡ t → p < end
      back v true q = ltb-true p end q
      back v false q = absurd (omega (arith, number_none s p end (ltb-false p end q)))

  less : number s body end < 256 ^ length (octets_from s body (end - body))
  less = rw (octets_long s body (end - body), pow_256 (end - body)) (number_below s h body end)

  pub positive_is : (ltb p end && ltb (octet_at s body) 128) ≡ is_positive (integer_of (octets_from s body (end - body)))
  unfolding integer_of number_from
  positive_is = go (ltb body end) refl
    where
      sign : (low : Bool) (above : Bool) (v m : ℕ) → above ≡ ltb 0 v → v < m → (above && low) ≡ is_positive (cond low (pos v) (sub_ℕ v m))
      sign true true v m a l = a
      sign true false v m a l = a
      sign false true v m a l = rw (lt-ltb v m l)
      sign false false v m a l = rw (lt-ltb v m l)

      go : (t : Bool) → ltb body end ≡ t → (ltb p end && ltb (octet_at s body) 128) ≡ is_positive (integer_of (octets_from s body (end - body)))
      go true t =
          let f = octets_first s body end (ltb-true body end t) in
          rw f (sign (ltb (octet_at s body) 128) (ltb p end) _ _ (rw f at above_zero) (rw f at less))
      go false t = let f = octets_none s body end (ltb-false body end t) in rw (above_zero, f)

pub positive_number : (s : List ℕ) (body end : ℕ) → Octets s → is_positive (integer_of (octets_from s body (end - body))) ≡ true
    → integer_of (octets_from s body (end - body)) ≡ pos (number s body end)
unfolding integer_of number_from
positive_number s body end h t = go (ltb body end) refl
  where
    whole : (low : Bool) (v m : ℕ) → v < m → is_positive (cond low (pos v) (sub_ℕ v m)) ≡ true → cond low (pos v) (sub_ℕ v m) ≡ pos v
    whole true v m l e = refl
    whole false v m l e = absurd (false≢true (rw (lt-ltb v m l) at e))

    go : (b : Bool) → ltb body end ≡ b → integer_of (octets_from s body (end - body)) ≡ pos (number s body end)
    go true b =
        let f = octets_first s body end (ltb-true body end b) in
        let l : number s body end < 256 ^ length (octets_from s body (end - body)) = less s body end (lead_of s body end) h refl in
        rw f (whole (ltb (octet_at s body) 128) _ _ (rw f at l) (rw f at t))
    go false b = let f = octets_none s body end (ltb-false body end b) in rw f
