-- A record cut into blocks.
--     from_count, from_long, from_snoc, from_front     k blocks from a part on: how many, how long, one more, and that they hold
--                                                      no more than k * 502 octets of the data
--     end_to_end_append, end_to_end_length             blocks one behind the other
--     filled_length                                    a record with its fill has whole parts
--     blocks_count, blocks_long, blocks_length         the blocks of a record
-- Assumes nothing.
use mathlib.Core.Path.{◌≡◌, refl, sym, ap, ap₂, ◌∙◌}
use mathlib.Core.List.{List, [], ◌∷◌, ◌++◌, append_assoc}
use Prim.Native.Nat.{ℕ, zero, suc, ◌+◌, ◌*◌, ◌^◌, ◌≤◌, ◌<◌}
use native.Mathlib.Omega.{arith}
use lib.ListN.{length, take, drop, length-append, length-replicate, length-drop}
use lib.Seq.{drop-drop, length-take-le, take-append-le, drop-append-le}
use Rattle.blocks.specs.Block.{block_of}
use Rattle.blocks.specs.Record.{parts}
use Rattle.blocks.proofs.Laws.Block.{block_length}
use Rattle.writer.specs.Cutting.{zero_filled, blocks_from, blocks_of, end_to_end}

-- each block has 512 octets
abbrev pub AllLong : List (List ℕ) → Type 0
AllLong [] = Unit {0}
AllLong (b ∷ bs) = (length b ≡ 512) × AllLong bs

pub end_to_end_append : (xs ys : List (List ℕ)) → end_to_end (xs ++ ys) ≡ end_to_end xs ++ end_to_end ys
end_to_end_append [] ys = refl
end_to_end_append (x ∷ xs) ys = ap (λ (l : List ℕ). x ++ l) (end_to_end_append xs ys) ∙ sym (append_assoc x (end_to_end xs) (end_to_end ys))

pub end_to_end_length : (bs : List (List ℕ)) → AllLong bs → length (end_to_end bs) ≡ length bs * 512
end_to_end_length [] h = refl
end_to_end_length (b ∷ bs) h = rw length-append (omega (arith, h.0, end_to_end_length bs h.1))

module _ (number n : ℕ) where
  pub from_count : (k j : ℕ) (d : List ℕ) → length (blocks_from number n j k d) ≡ k
  from_count zero j d = refl
  from_count (suc k) j d = ap suc (from_count k (suc j) (drop 502 d))

  pub from_snoc : (k j : ℕ) (d : List ℕ)
      → blocks_from number n j (suc k) d ≡ blocks_from number n j k d ++ (block_of number n (j + k) (take 502 (drop (k * 502) d)) ∷ [])
  from_snoc zero j d = ap (λ (m : ℕ). block_of number n m (take 502 d) ∷ []) (omega arith)
  from_snoc (suc k) j d =
      let e : 502 + k * 502 ≡ suc k * 502 = omega arith in
      let m : suc j + k ≡ j + suc k = omega arith in
      ap (λ (l : List (List ℕ)). block_of number n j (take 502 d) ∷ l)
      (from_snoc k (suc j) (drop 502 d)
      ∙ ap₂ (λ (i : ℕ) (t : List ℕ). blocks_from number n (suc j) k (drop 502 d) ++ (block_of number n i (take 502 t) ∷ [])) m
      (drop-drop (k * 502) 502 d ∙ ap (λ (i : ℕ). drop i d) e))

  pub from_front : (k j : ℕ) (d rest : List ℕ) → k * 502 ≤ length d → blocks_from number n j k (d ++ rest) ≡ blocks_from number n j k d
  from_front zero j d rest h = refl
  from_front (suc k) j d rest h =
      ap₂ (λ (b l : List ℕ). block_of number n j b ∷ blocks_from number n (suc j) k l) (take-append-le 502 d rest (omega arith))
      (drop-append-le 502 d rest (omega arith))
      ∙ ap (λ (bs : List (List ℕ)). block_of number n j (take 502 d) ∷ bs) (from_front k (suc j) (drop 502 d) rest (simp length-drop (omega arith)))

  pub from_long : number < 2 ^ 32 → n < 65536 → (k j : ℕ) (d : List ℕ) → k * 502 ≤ length d → AllLong (blocks_from number n j k d)
  from_long hnumber hn zero j d h = tt
  from_long hnumber hn (suc k) j d h = (
    block_length number n j (take 502 d) hnumber hn (length-take-le 502 d (omega arith)),
    from_long hnumber hn k (suc j) (drop 502 d) (simp length-drop (omega arith)),
  )

-- a record
module _ (p : List ℕ) where
  pub filled_length : length (zero_filled p) ≡ parts (length p) * 502
  unfolding zero_filled
  filled_length = simp (length-append, length-replicate) (omega arith)

  module _ (number : ℕ) where
    pub blocks_count : length (blocks_of number p) ≡ parts (length p)
    unfolding blocks_of
    blocks_count = from_count number (length p) (parts (length p)) 0 (zero_filled p)

    module _ (hnumber : number < 2 ^ 32) (hp : length p < 65536) where
      pub blocks_long : AllLong (blocks_of number p)
      unfolding blocks_of
      blocks_long = from_long number (length p) hnumber hp (parts (length p)) 0 (zero_filled p) (omega (arith, filled_length))

      pub blocks_length : length (end_to_end (blocks_of number p)) ≡ 512 * parts (length p)
      blocks_length = omega (arith, end_to_end_length (blocks_of number p) blocks_long, blocks_count)
