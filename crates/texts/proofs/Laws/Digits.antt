-- Digits written from the last one on, to the end of a space of 20 octets.
--     Begun, begin           some are written, and at the start none
--     digit_on, digit_last   one more, and the first of the number
--     still_long             the space keeps its length
--     digits_put             what is put of the space is the number in decimal
-- Assumes nothing.
use mathlib.Core.Path.{◌≡◌, sym, ap, ap₂, subst, ◌∙◌}
use mathlib.Core.List.{List, ◌∷◌, ◌++◌, append-nil}
use Prim.Native.Nat.{ℕ, suc, ◌+◌, ◌-◌, ◌/◌, ◌%◌, ◌^◌, ◌≤◌, ◌<◌}
use native.Mathlib.Omega.{arith}
use lib.ListN.{length, set, take, drop, length-set, length-drop, drop_of_length-le}
use lib.Seq.{take_all, drop-cons, drop-set-lt, get_or-set_same, append_snoc}
use Rattle.texts.specs.Texts.{decimal}
use Rattle.texts.specs.Putting.{Grown}
use Rattle.texts.specs.declared.putting.Text.{Text}
use Rattle.texts.proofs.Laws.Decimal.{one_digit, more_digits, tenth}

-- those from place i on are written, and `rest` is left to be written before them
pub record Begun (x : ℕ) (space : List ℕ) (rest i : ℕ) : Type 0 where
  pub long : length space ≡ 20
  pub digits : decimal rest ++ drop i space ≡ decimal x
  pub enough : rest < 10 ^ i
  pub some : 1 ≤ i
  pub most : i ≤ 20

pub begin : (x : ℕ) (space : List ℕ) → length space ≡ 20 → x < 2 ^ 64 → Begun x space x 20
begin x space l h =
    record {
      long = l;
      digits = ap (λ (t : List ℕ). decimal x ++ t) (drop_of_length-le space {i = 20} (omega arith)) ∙ append-nil (decimal x);
      enough = omega arith;
      some = omega arith;
      most = omega arith;
    }

drop-set : (l : List ℕ) (i b : ℕ) → i < length l → drop i (set l i b) ≡ b ∷ drop (suc i) l
drop-set l i b h =
    drop-cons (set l i b) i 0 (rw (length-set l i b) h)
    ∙ ap₂ (λ (c : ℕ) (t : List ℕ). c ∷ t) (get_or-set_same l i b 0 h) (drop-set-lt (suc i) l i b (omega arith))

module _ {x : ℕ} {space : List ℕ} {rest i : ℕ} (w : Begun x space rest i) where
  abbrev with_digit : ℕ → List ℕ
  with_digit d = set space (i - 1) (48 + d)

  in_front : (d : ℕ) → drop (i - 1) (with_digit d) ≡ (48 + d) ∷ drop i space
  in_front d =
      let e : suc (i - 1) ≡ i = omega (arith, w.some) in
      drop-set space (i - 1) (48 + d) (omega (arith, w.long, w.some, w.most)) ∙ ap (λ (k : ℕ). (48 + d) ∷ drop k space) e

  pub still_long : (d : ℕ) → length (with_digit d) ≡ 20
  still_long d = length-set space (i - 1) (48 + d) ∙ w.long

  pub digit_on : 10 ≤ rest → Begun x (with_digit (rest % 10)) (rest / 10) (i - 1)
  digit_on h =
      let t = tenth rest i h w.enough in
      record {
        long = still_long (rest % 10);
        digits =
            ap (λ (l : List ℕ). decimal (rest / 10) ++ l) (in_front (rest % 10))
            ∙ sym (append_snoc (decimal (rest / 10)) (48 + rest % 10) (drop i space))
            ∙ ap (λ (l : List ℕ). l ++ drop i space) (sym (more_digits rest h))
            ∙ w.digits;
        enough = t.1;
        some = omega (arith, t.0);
        most = omega (arith, w.most);
      }

  pub digit_last : rest < 10 → (drop (i - 1) (with_digit rest) ≡ decimal x) × (i - 1 < 20)
  digit_last h =
      (in_front rest ∙ ap (λ (l : List ℕ). l ++ drop i space) (sym (one_digit rest h)) ∙ w.digits, omega (arith, w.some, w.most))

pub digits_put : (x at : ℕ) (space : List ℕ) {t u : Text}
    → length space ≡ 20 → drop at space ≡ decimal x → Grown (take (20 - at) (drop at space)) t u → Grown (decimal x) t u
digits_put x at space {t} {u} l e p =
    let all : length (drop at space) ≤ 20 - at = simp (length-drop, l) (omega arith) in
    subst (λ (bs : List ℕ). Grown bs t u) (take_all (20 - at) (drop at space) all ∙ e) p
