-- The first octet that is not 0.
--     lead_done, lead_step, lead_stop, lead_none     the loop that looks for it
--     leads                                          the number from it on is the whole number, and it is not 0
-- Assumes nothing.
use mathlib.Core.Path.{◌≡◌, refl, sym, ap, ◌∙◌}
use mathlib.Core.List.{List}
use mathlib.Core.Bool.{Bool, true, false}
use Prim.Native.Nat.{ℕ, zero, suc, ◌+◌, ◌-◌, ◌*◌, ◌≤◌, ◌<◌, max}
use native.Mathlib.Omega.{arith}
use lib.Dec.{eqb, leb}
use borrow.Author.Tests.{eq-eqb, ne_eqb, eqb-true, eqb-false, leb-true, leb-false}
use Rattle.numbers.specs.Numbers.{number}
use Rattle.numbers.specs.Workings.Leading.{lead_by, lead_of}
use Rattle.octets.specs.Octets.{octet_at, octets_from}
use Rattle.octets.specs.Numbers.{number_from}
use Rattle.numbers.proofs.Laws.Values.{number_first}

pub lead_done : (s : List ℕ) (i end : ℕ) → end ≤ i → lead_of s i end ≡ i
unfolding lead_by
lead_done s i end h = let e : end - i ≡ 0 = omega arith in rw e

module _ (s : List ℕ) (i end b : ℕ) (h : i < end) (e : b ≡ octet_at s i) where
  pub lead_step : b ≡ 0 → lead_of s i end ≡ lead_of s (i + 1) end
  unfolding lead_by
  lead_step z = let f : end - i ≡ suc (end - (i + 1)) = omega arith in rw (f, ← e, eq-eqb b 0 z)

  pub lead_stop : (b ≡ 0 → ⊥) → lead_of s i end ≡ i
  unfolding lead_by
  lead_stop z = let f : end - i ≡ suc (end - (i + 1)) = omega arith in rw (f, ← e, ne_eqb b 0 z)

-- it leaves the number as it is, and no octet 0 stands there
pub record Leads (s : List ℕ) (body end p : ℕ) : Type 0 where
  pub same : number s p end ≡ number s body end
  pub above : p < end → 0 < octet_at s p

positive_octet : (n : ℕ) → (n ≡ 0 → ⊥) → 0 < n
positive_octet zero f = absurd (f refl)
positive_octet (suc n) f = omega arith

leads_by : (s : List ℕ) (n i end : ℕ) → end - i ≡ n → Leads s i end (lead_of s i end)
leads_by s zero i end e =
    rw (lead_done s i end (omega arith)) (record { same = refl; above = λ l. absurd (omega arith) })
leads_by s (suc n) i end e = go (leads_by s n (i + 1) end (omega arith)) (eqb (octet_at s i) 0) refl
  where
    go : Leads s (i + 1) end (lead_of s (i + 1) end) → (t : Bool) → eqb (octet_at s i) 0 ≡ t → Leads s i end (lead_of s i end)
    go l true z =
        let k : i < end = omega arith in
        let z₀ : octet_at s i ≡ 0 = eqb-true (octet_at s i) 0 z in
        let f : number s i end ≡ number s (i + 1) end = number_first s 0 i end k ∙ ap
        (λ (x : ℕ). number_from (256 * 0 + x) (octets_from s (i + 1) (end - (i + 1)))) z₀ in
        rw (lead_step s i end (octet_at s i) k refl z₀) (record { same = l.same ∙ sym f; above = l.above })
    go l false z =
        let k : i < end = omega arith in
        let z₀ : octet_at s i ≡ 0 → ⊥ = eqb-false (octet_at s i) 0 z in
        rw (lead_stop s i end (octet_at s i) k refl z₀) (record { same = refl; above = λ l. positive_octet (octet_at s i) z₀ })

pub leads : (s : List ℕ) (body end p : ℕ) → p ≡ lead_of s body end → Leads s body end p
leads s body end p e = rw e (leads_by s (end - body) body end refl)

-- i is where a loop from body to end stops
pub lead_none : (s : List ℕ) (body end i : ℕ) → end ≤ i → (body ≤ end → i ≤ end) → lead_of s body end ≡ lead_of s i end → max body end ≡ lead_of s body end
lead_none s body end i h k e = go (leb body end) refl
  where
    go : (t : Bool) → leb body end ≡ t → max body end ≡ lead_of s body end
    go true t =
        let l = leb-true body end t in
        let m : max body end ≡ i = omega (arith, k l) in
        m ∙ sym (e ∙ lead_done s i end h)
    go false t =
        let l = leb-false body end t in
        let m : max body end ≡ body = omega arith in
        m ∙ sym (lead_done s body end (omega arith))
