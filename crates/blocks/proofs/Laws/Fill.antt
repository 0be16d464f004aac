-- The fill of a block: its data from an octet on.
--     fill_all     each of them is zero
-- Assumes nothing.
use mathlib.Core.Path.{◌≡◌, refl, sym, ap, ap₂, ◌∙◌}
use mathlib.Core.Bool.{Bool, true, false, ◌&&◌}
use mathlib.Core.Logic.{⊎_elim}
use mathlib.Core.List.{List}
use Prim.Native.Nat.{ℕ, zero, suc, ◌+◌, ◌-◌, ◌≤◌, ◌<◌}
use native.Mathlib.Omega.{arith}
use lib.Dec.{eqb}
use lib.ListN.{length, drop, length-take, length-drop, drop_of_length-le}
use lib.Seq.{drop-cons, get_or-take, get_or-drop}
use Rattle.std.specs.List.{list_all}
use Rattle.blocks.specs.Tests.{◌and◌}
use Rattle.blocks.specs.Block.{data_of}
use Rattle.blocks.specs.Record.{are_zero}
use Rattle.octets.specs.Octets.{octet_at, octets_from}
use Rattle.octets.proofs.Laws.Octets.{past}
use Rattle.blocks.proofs.Laws.Logic.{below_or_not}

module _ (b : List ℕ) (i : ℕ) where
  inside : i < length (data_of b) → i < 502 → are_zero (drop i (data_of b)) ≡ (eqb (octet_at b (8 + i)) 0 and are_zero (drop (i + 1) (data_of b)))
  inside h l =
      let e : suc i ≡ i + 1 = omega arith in
      ap are_zero (drop-cons (data_of b) i 0 h)
      ∙ ap₂ (λ (x m : ℕ). eqb x 0 and are_zero (drop m (data_of b))) (get_or-take 502 (drop 8 b) i 0 l ∙ get_or-drop 8 b i 0) e

  -- past the block's end, where octets read as 0
  outside : length (data_of b) ≤ i → i < 502 → are_zero (drop i (data_of b)) ≡ (eqb (octet_at b (8 + i)) 0 and are_zero (drop (i + 1) (data_of b)))
  unfolding ◌and◌
  outside h l =
      let long = simp (length-take, length-drop) at h in
      let ended : length b ≤ 8 + i = omega arith in
      rw (← past b (8 + i) ended, drop_of_length-le (data_of b) h, drop_of_length-le (data_of b) {i = i + 1} (omega arith))

  fill_next : i < 502 → are_zero (drop i (data_of b)) ≡ (eqb (octet_at b (8 + i)) 0 and are_zero (drop (i + 1) (data_of b)))
  fill_next l = ⊎_elim (λ h. inside h l) (λ h. outside h l) (below_or_not i (length (data_of b)))

  fill_done : 502 ≤ i → are_zero (drop i (data_of b)) ≡ true
  fill_done h =
      let long : length (data_of b) ≤ i = simp length-take (omega arith) in
      ap are_zero (drop_of_length-le (data_of b) {i = i} long)

and_is : (a b : Bool) → (a && b) ≡ (a and b)
unfolding ◌and◌
and_is true b = refl
and_is false b = refl

fill_from : (b : List ℕ) (n i : ℕ) → 502 - i ≡ n → list_all (λ x. eqb x 0) (octets_from b (i + 8) n) ≡ are_zero (drop i (data_of b))
unfolding octets_from
fill_from b zero i e = sym (fill_done b i (omega arith))
fill_from b (suc n) i e =
    let p : i + 8 ≡ 8 + i = omega arith in
    let q : i + 8 + 1 ≡ i + 1 + 8 = omega arith in
    ap (λ k. eqb (octet_at b (i + 8)) 0 && list_all (λ x. eqb x 0) (octets_from b k n)) q
    ∙ (ap (λ r. eqb (octet_at b (i + 8)) 0 && r) (fill_from b n (i + 1) (omega arith))
    ∙ (and_is (eqb (octet_at b (i + 8)) 0) (are_zero (drop (i + 1) (data_of b)))
    ∙ (ap (λ k. eqb (octet_at b k) 0 and are_zero (drop (i + 1) (data_of b))) p
    ∙ sym (fill_next b i (omega arith)))))

pub fill_all : (b : List ℕ) (used : ℕ) → list_all (λ x. eqb x 0) (octets_from b (used + 8) (502 - used)) ≡ are_zero (drop used (data_of b))
fill_all b used = fill_from b (502 - used) used refl
