-- A block put together: its length, its check and its fields.
--     block_length, block_sound                  512 octets, and sound
--     block_number, block_len, block_part, block_clear, block_data     its fields are those it was made of
--     check_small, get_or_past                     a check is below 65,521; what stands behind the first n octets of a joined list
-- Assumes nothing.
use mathlib.Core.Path.{◌≡◌, refl}
use mathlib.Core.Bool.{true}
use mathlib.Core.List.{List, ◌++◌}
use Prim.Native.Nat.{ℕ, ◌+◌, ◌^◌, ◌<◌}
use native.Mathlib.Omega.{arith}
use lib.ListN.{length, get_or, take, length-append}
use lib.Seq.{take_at, get_or-append-add}
use borrow.Author.Tests.{eq-eqb}
use Rattle.blocks.specs.Block.{check_of, sound, record_number, record_length, part_of, is_clear, data_of, body_of, block_of}
use Rattle.octets.specs.Numbers.{pair_at, pair_of}
use Rattle.blocks.proofs.Laws.Logic.{and_both}

pub check_small : (b : List ℕ) → check_of b < 65521
unfolding check_of
check_small b = omega arith

-- what stands m past a list of n
pub get_or_past : (p q : List ℕ) (n m : ℕ) → length p ≡ n → get_or (p ++ q) (n + m) 0 ≡ get_or q m 0
get_or_past p q n m e = rw (← e) (get_or-append-add p q m 0)

pub block_part : (number n j : ℕ) (d : List ℕ) → part_of (block_of number n j d) ≡ j
unfolding block_of
block_part number n j d = refl

pub block_clear : (number n j : ℕ) (d : List ℕ) → is_clear (block_of number n j d) ≡ true
unfolding block_of
block_clear number n j d = refl

-- one block
module _ (number n j : ℕ) (d : List ℕ) (hnumber : number < 2 ^ 32) (hn : n < 65536) (hd : length d ≡ 502) where
  body_length : length (body_of number n j d) ≡ 510
  body_length = omega arith

  pub block_length : length (block_of number n j d) ≡ 512
  unfolding block_of
  block_length = simp length-append (omega arith)

  check_read : check_of (take 510 (block_of number n j d)) ≡ pair_at (block_of number n j d) 510
  unfolding block_of
  check_read =
      let body : List ℕ = body_of number n j d in
      let c : ℕ = check_of body in
      rw (take_at body (pair_of c) 510 body_length)
      (omega (arith, check_small body, get_or_past body (pair_of c) 510 0 body_length, get_or_past body (pair_of c) 510 1 body_length))

  pub block_sound : sound (block_of number n j d) ≡ true
  unfolding sound
  block_sound = and_both (eq-eqb _ _ block_length) (eq-eqb _ _ check_read)

  pub block_number : record_number (block_of number n j d) ≡ number
  unfolding block_of
  block_number = omega arith

  pub block_len : record_length (block_of number n j d) ≡ n
  unfolding block_of
  block_len = omega arith

  pub block_data : data_of (block_of number n j d) ≡ d
  unfolding block_of
  block_data = take_at d (pair_of (check_of (body_of number n j d))) 502 hd
