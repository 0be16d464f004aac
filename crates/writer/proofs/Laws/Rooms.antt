-- What the writer's steps come to: the head, the data and the check of a block, and block after block in the room.
--     check_put       the check behind the 510 octets that it is of
--     block_put       the head, the data and the check put make the block
--     room_step       a block put at its place, behind those before it
--     room_length     the room keeps its length
-- Assumes nothing.
use mathlib.Core.Path.{◌≡◌, sym, ap, ap₂, ◌∙◌}
use mathlib.Core.List.{List, [], ◌∷◌, ◌++◌, append_assoc, append-nil}
use Prim.Native.Nat.{ℕ, suc, ◌+◌, ◌*◌, ◌-◌, ◌^◌, ◌≤◌, ◌<◌}
use native.Mathlib.Omega.{arith}
use lib.ListN.{length, take, drop, length-append, length-drop, drop_of_length-le}
use lib.Seq.{sets, sets-eq, take-paste, take_at, drop-drop, drop-append-add}
use borrow.Rule.Slice.PartMut.{put_mid, post_of, Post-is}
use Rattle.octets.specs.Numbers.{pair_of, quad_of}
use Rattle.octets.specs.Copying.{copied}
use Rattle.octets.proofs.Laws.Copying.{copied_paste}
use Rattle.blocks.specs.Block.{check_of, body_of, block_of}
use Rattle.writer.specs.Cutting.{blocks_from, end_to_end}
use Rattle.writer.proofs.Laws.Cutting.{from_count, from_long, from_snoc, end_to_end_append, end_to_end_length}

pub check_put : (b : List ℕ) (check : ℕ) → length b ≡ 512 → check ≡ check_of (take 510 b)
    → sets b 510 (pair_of check) ≡ take 510 b ++ pair_of (check_of (take 510 b))
check_put b check h e =
    sets-eq (pair_of check) b 510 (omega arith)
    ∙ rw (drop_of_length-le b {i = 512} (omega arith), append-nil) (ap (λ (n : ℕ). take 510 b ++ pair_of n) e)

-- the 502 octets of the desk from place `at` on are copied behind the head
pub block_put : (number n j at : ℕ) (desk b₀ b₁ b₂ b₃ : List ℕ) → at + 502 ≤ length desk → length b₀ ≡ 512
    → b₁ ≡ (quad_of number ++ (pair_of n ++ (j ∷ 0 ∷ []))) ++ drop 8 b₀ → b₂ ≡ copied desk at 502 b₁ 8
    → b₃ ≡ take 510 b₂ ++ pair_of (check_of (take 510 b₂)) → b₃ ≡ block_of number n j (take 502 (drop at desk))
unfolding block_of
block_put number n j at desk b₀ b₁ b₂ b₃ hd h₀ e₁ e₂ e₃ =
    let c₁ : List ℕ = (quad_of number ++ (pair_of n ++ (j ∷ 0 ∷ []))) ++ drop 8 b₀ in
    let long : length c₁ ≡ 512 = simp length-drop (omega arith) in
    let body : take 510 b₂ ≡ body_of number n j (take 502 (drop at desk)) =
    ap (λ (l : List ℕ). take 510 l) (e₂ ∙ ap (λ (l : List ℕ). copied desk at 502 l 8) e₁ ∙ copied_paste desk at 502 c₁ 8 hd (omega arith))
    ∙ take-paste c₁ 8 (drop at desk) 502 (omega arith) (simp length-drop (omega arith)) in
    e₃ ∙ ap (λ (l : List ℕ). l ++ pair_of (check_of l)) body

module _ (number n j : ℕ) (d room₀ : List ℕ) (hnumber : number < 2 ^ 32) (hn : n < 65536) where
  before_length : j * 502 ≤ length d → length (end_to_end (blocks_from number n 0 j d)) ≡ j * 512
  before_length h =
      end_to_end_length (blocks_from number n 0 j d) (from_long number n hnumber hn j 0 d h) ∙ ap (λ (m : ℕ). m * 512) (from_count number n j 0 d)

  pub room_step : (room block : List ℕ) → j * 502 + 502 ≤ length d → room ≡ end_to_end (blocks_from number n 0 j d) ++ drop (512 * j) room₀
      → block ≡ block_of number n j (take 502 (drop (j * 502) d))
      → put_mid (j * 512) (j * 512 + 512 - j * 512) room block ≡ end_to_end (blocks_from number n 0 (suc j) d) ++ drop (512 * suc j) room₀
  room_step room block hd e b =
      let J : List ℕ = end_to_end (blocks_from number n 0 j d) in
      let X : List ℕ = drop (512 * j) room₀ in
      let l_j : length J ≡ j * 512 = before_length (omega arith) in
      let e₁ : j * 512 + 512 ≡ length J + 512 = omega arith in
      let e₂ : 512 * j + 512 ≡ 512 * suc j = omega arith in
      let front : take (j * 512) room ≡ J = ap (λ (l : List ℕ). take (j * 512) l) e ∙ take_at J X (j * 512) l_j in
      let back : post_of (j * 512) (j * 512 + 512 - j * 512) room ≡ drop (512 * suc j) room₀ =
      Post-is (j * 512) (j * 512 + 512) room (omega arith)
      ∙ ap (λ (m : ℕ). drop m room) e₁
      ∙ ap (λ (l : List ℕ). drop (length J + 512) l) e
      ∙ drop-append-add J X 512
      ∙ drop-drop 512 (512 * j) room₀
      ∙ ap (λ (m : ℕ). drop m room₀) e₂ in
      let more : end_to_end (blocks_from number n 0 (suc j) d) ≡ J ++ block =
      ap end_to_end (from_snoc number n j 0 d) ∙ end_to_end_append (blocks_from number n 0 j d) _
      ∙ ap (λ (l : List ℕ). J ++ l) (append-nil _ ∙ ap (λ (m : ℕ). block_of number n m (take 502 (drop (j * 502) d))) (omega arith) ∙ sym b) in
      ap₂ (λ (l r : List ℕ). l ++ (block ++ r)) front back
      ∙ sym (append_assoc J block (drop (512 * suc j) room₀))
      ∙ ap (λ (l : List ℕ). l ++ drop (512 * suc j) room₀) (sym more)

  pub room_length : (room : List ℕ) → j * 502 ≤ length d → 512 * j ≤ length room₀ → room ≡ end_to_end (blocks_from number n 0 j d) ++ drop (512 * j) room₀
      → length room ≡ length room₀
  room_length room hd hr e = ap length e ∙ simp (length-append, length-drop) (omega (arith, before_length hd))
