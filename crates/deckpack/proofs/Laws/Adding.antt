-- A deck that ends with a whole block takes blocks (`TakesBlocks`): what is added to it is found at positions of its own.
-- Assumes nothing.
use mathlib.Core.Bool.{Bool, true, false, cond}
use mathlib.Core.Path.{◌≡◌, refl, ap, ◌∙◌}
use mathlib.Core.List.{List, [], ◌∷◌, ◌++◌}
use Prim.Native.Nat.{ℕ, zero, suc, ◌+◌, ◌*◌, ◌/◌, ◌%◌, ◌≤◌}
use native.Mathlib.Omega.{arith}
use lib.Dec.{eqb}
use lib.IntN.{pos}
use lib.ListN.{length, take, drop, length-append, length-drop}
use lib.Seq.{take-append-le, drop-append-le}
use borrow.Author.Tests.{eqb-true}
use Rattle.reader.specs.Runs.{cut, blocks}
use Rattle.deckpack.specs.Ending.{ending_of}
use Rattle.deckpack.specs.declared.appending.Ending.TheVariants.{Whole, Torn}

-- whatever is added to the deck is cut into blocks by itself, and the deck's own blocks stay as they are
abbrev pub TakesBlocks : List ℕ → Type 0
TakesBlocks deck = (more : List ℕ) → blocks (deck ++ more) ≡ blocks deck ++ blocks more

-- k whole blocks, and m behind them
cut_join : (k m : ℕ) (deck more : List ℕ) → length deck ≡ 512 * k → cut (k + m) (deck ++ more) ≡ cut k deck ++ cut m more
cut_join zero m [] more e =
    let none : 0 + m ≡ m = omega arith in
    ap (λ (n : ℕ). cut n more) none
cut_join zero m (b ∷ bs) more e = absurd (omega arith)
cut_join (suc k) m deck more e =
    let first : suc k + m ≡ suc (k + m) = omega arith in
    let long : 512 ≤ length deck = omega arith in
    let rest : length (drop 512 deck) ≡ 512 * k = omega (arith, length-drop 512 deck) in
    ap (λ (n : ℕ). cut n (deck ++ more)) first
    ∙ rw (take-append-le 512 deck more long, drop-append-le 512 deck more long)
    (ap (λ (bs : List (List ℕ)). take 512 deck ∷ bs) (cut_join k m (drop 512 deck) more rest))

whole_length : (n : ℕ) → ending_of (pos n) ≡ Whole n → n % 512 ≡ 0
whole_length n = go (eqb (n % 512) 0) refl
  where
    go : (b : Bool) → eqb (n % 512) 0 ≡ b → cond b (Whole n) (Torn (n % 512)) ≡ Whole n → n % 512 ≡ 0
    go true t e = eqb-true (n % 512) 0 t
    go false t e =
        let z : ◌≡◌ {A = ℕ} 0 1 = cc e in
        absurd (omega arith)

pub whole_takes : (deck : List ℕ) → ending_of (pos (length deck)) ≡ Whole (length deck) → TakesBlocks deck
unfolding blocks
whole_takes deck e more =
    let none : length deck % 512 ≡ 0 = whole_length (length deck) e in
    let k = (length deck + 511) / 512 in
    let m = (length more + 511) / 512 in
    let long : length deck ≡ 512 * ((length deck + 511) / 512) = omega arith in
    let both : (length (deck ++ more) + 511) / 512 ≡ (length deck + 511) / 512 + (length more + 511) / 512 = omega (arith, length-append deck more) in
    ap (λ (n : ℕ). cut n (deck ++ more)) both ∙ cut_join k m deck more long
