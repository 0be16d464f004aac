-- The desk: a record laid out at its front, zeros behind it.
--     laid_out        the head, the certificate and the issuer laid there make the record
--     desk_blocks     the blocks of what lies on the desk are the record's
--     desk_holds      so many zeros are at least as many as are asked for
--     parts_few       a record of admitted lengths has at most 33 parts
--     record_put      its blocks are in the room
-- Assumes nothing.
use mathlib.Core.Path.{◌≡◌, refl, sym, ap, ap₂, ◌∙◌}
use mathlib.Core.List.{List, ◌∷◌, ◌++◌, append_assoc}
use Prim.Native.Nat.{ℕ, ◌+◌, ◌*◌, ◌-◌, ◌≤◌}
use native.Mathlib.Omega.{arith}
use lib.ListN.{length, drop, replicate, length-append, length-drop, length-replicate, replicate-append-replicate}
use lib.Seq.{take_at, take-length, drop_at, drop-drop, drop-append-add}
use Rattle.octets.specs.Numbers.{pair_of}
use Rattle.octets.specs.Copying.{copied}
use Rattle.octets.proofs.Laws.Copying.{copied_paste}
use Rattle.blocks.specs.Record.{record_of, parts}
use Rattle.blocks.proofs.Laws.Record.{record_length_lem}
use Rattle.writer.specs.Cutting.{zero_filled, blocks_from, blocks_of, end_to_end}
use Rattle.writer.proofs.Laws.Cutting.{from_front, filled_length}

-- the whole of s copied to where `rest` begins
copied_behind : (s front rest : List ℕ) (at : ℕ) → length front ≡ at → length s ≤ length rest
    → copied s 0 (length s) (front ++ rest) at ≡ (front ++ s) ++ drop (length s) rest
copied_behind s front rest at e h =
    let e₁ : at + length s ≡ length front + length s = omega arith in
    copied_paste s 0 (length s) (front ++ rest) at (omega arith) (simp length-append (omega arith))
    ∙ ap₂ (λ (a b : List ℕ). (a ++ b) ++ drop (at + length s) (front ++ rest)) (take_at front rest at e) (take-length s)
    ∙ ap (λ (l : List ℕ). (front ++ s) ++ l) (ap (λ (m : ℕ). drop m (front ++ rest)) e₁ ∙ drop-append-add front rest (length s))

pub laid_out : (profile : ℕ) (certificate issuer desk d₁ d₂ d₃ : List ℕ) → 3 + length certificate + length issuer ≤ length desk
    → d₁ ≡ (profile ∷ pair_of (length certificate)) ++ drop 3 desk
    → d₂ ≡ copied certificate 0 (length certificate) d₁ 3
    → d₃ ≡ copied issuer 0 (length issuer) d₂ (3 + length certificate)
    → d₃ ≡ record_of profile certificate issuer ++ drop (3 + length certificate + length issuer) desk
unfolding record_of
laid_out profile certificate issuer desk d₁ d₂ d₃ h e₁ e₂ e₃ =
    let head : List ℕ = profile ∷ pair_of (length certificate) in
    let l₂ : d₂ ≡ (head ++ certificate) ++ drop (length certificate) (drop 3 desk) =
    e₂ ∙ ap (λ (l : List ℕ). copied certificate 0 (length certificate) l 3) e₁
    ∙ copied_behind certificate head (drop 3 desk) 3 refl (simp length-drop (omega arith)) in
    e₃ ∙ ap (λ (l : List ℕ). copied issuer 0 (length issuer) l (3 + length certificate))
    (l₂ ∙ ap (λ (l : List ℕ). (head ++ certificate) ++ l) (drop-drop (length certificate) 3 desk))
    ∙ copied_behind issuer (head ++ certificate) (drop (3 + length certificate) desk) (3 + length certificate)
    (simp length-append (omega arith)) (simp length-drop (omega arith))
    ∙ ap₂ (λ (a b : List ℕ). a ++ b) (append_assoc head certificate issuer) (drop-drop (length issuer) (3 + length certificate) desk)

-- zeros behind a record: those of its fill, and more
zeros_behind : (p : List ℕ) (fill more size : ℕ) → size ≡ length p + (fill + more)
    → p ++ drop {A = ℕ} (length p) (replicate size 0) ≡ (p ++ replicate fill 0) ++ replicate more 0
zeros_behind p fill more size e =
    let cut : drop {A = ℕ} (length p) (replicate size 0) ≡ replicate fill 0 ++ replicate more 0 =
    ap (λ (m : ℕ). drop {A = ℕ} (length p) (replicate m 0)) e
    ∙ ap (λ (l : List ℕ). drop (length p) l) (sym (replicate-append-replicate (length p) (fill + more) 0))
    ∙ drop_at (replicate (length p) 0) (replicate (fill + more) 0) (length p) (length-replicate (length p) 0)
    ∙ sym (replicate-append-replicate fill more 0) in
    ap (λ (l : List ℕ). p ++ l) cut ∙ sym (append_assoc p (replicate fill 0) (replicate more 0))

desk_filled : (p : List ℕ) (size : ℕ) → parts (length p) * 502 ≤ size
    → p ++ drop {A = ℕ} (length p) (replicate size 0) ≡ zero_filled p ++ replicate (size - parts (length p) * 502) 0
unfolding zero_filled
desk_filled p size h = zeros_behind p (parts (length p) * 502 - length p) (size - parts (length p) * 502) size (omega arith)

pub desk_blocks : (number : ℕ) (p : List ℕ) (size : ℕ) → parts (length p) * 502 ≤ size
    → blocks_from number (length p) 0 (parts (length p)) (p ++ drop {A = ℕ} (length p) (replicate size 0)) ≡ blocks_of number p
unfolding blocks_of
desk_blocks number p size h =
    ap (λ (l : List ℕ). blocks_from number (length p) 0 (parts (length p)) l) (desk_filled p size h)
    ∙ from_front number (length p) (parts (length p)) 0 (zero_filled p) (replicate (size - parts (length p) * 502) 0) (omega (arith, filled_length p))

pub desk_holds : (n size : ℕ) → n ≤ size → n ≤ length {A = ℕ} (replicate size 0)
desk_holds n size h = rw (length-replicate {A = ℕ} size 0) h

module _ (profile : ℕ) (certificate issuer : List ℕ) (count : ℕ) (all : count ≡ parts (length (record_of profile certificate issuer))) where
  pub parts_few : length certificate ≤ 8192 → length issuer ≤ 8192 → count ≤ 33
  parts_few hc hi = omega (arith, all, record_length_lem profile certificate issuer)

  pub record_put : (number size : ℕ) (desk room last : List ℕ) → count * 502 ≤ size
      → desk ≡ record_of profile certificate issuer ++ drop (3 + length certificate + length issuer) (replicate size 0)
      → last ≡ end_to_end (blocks_from number (3 + length certificate + length issuer) 0 count desk) ++ drop (512 * count) room
      → last ≡ end_to_end (blocks_of number (record_of profile certificate issuer)) ++ drop (512 * count) room
  record_put number size desk room last h laid put =
      let p : List ℕ = record_of profile certificate issuer in
      let n : 3 + length certificate + length issuer ≡ length p = sym (record_length_lem profile certificate issuer) in
      let lies : desk ≡ p ++ drop {A = ℕ} (length p) (replicate size 0) = laid ∙ ap (λ (m : ℕ). p ++ drop {A = ℕ} m (replicate size 0)) n in
      let blocks : blocks_from number (3 + length certificate + length issuer) 0 count desk ≡ blocks_of number p =
      ap (λ (l : List ℕ). blocks_from number (3 + length certificate + length issuer) 0 count l) lies
      ∙ ap₂ (λ (m k : ℕ). blocks_from number m 0 k (p ++ drop {A = ℕ} (length p) (replicate size 0))) n all
      ∙ desk_blocks number p size (omega (arith, all, h)) in
      put ∙ ap (λ (bs : List (List ℕ)). end_to_end bs ++ drop (512 * count) room) blocks
