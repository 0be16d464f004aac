-- Decimal numbers, digit by digit.
--     digit_from                                   a digit is 48 at least
--     append_other, append_large, append_digit     one digit written on, by the tests that are made of it
--     append_taken                                 what is known of a digit that was taken
--     decimal_empty, decimal_begins                a text with no octet, and one with some
--     decimal_next, decimal_stops                  its kth octet is a digit that the number takes, or is none such
--     decimal_done                                 no octet is left
-- Assumes nothing.
use mathlib.Core.Path.{◌≡◌, refl}
use mathlib.Core.List.{List, [], ◌∷◌}
use mathlib.Core.Bool.{Bool, true, false, ◌&&◌}
use Prim.Native.Nat.{ℕ, suc, ◌+◌, ◌*◌, ◌≤◌, ◌<◌}
use native.Mathlib.Numerals.{add-one}
use native.Mathlib.Omega.{arith}
use Rattle.std.specs.Prelude.{◌==◌, Some, None}
use Rattle.std.specs.Bool.{then_some}
use lib.Dec.{leb}
use lib.ListN.{length, get_or, drop, drop_of_length-le}
use lib.Seq.{drop-cons}
use borrow.Author.Tests.{le-leb, lt-leb, leb-true, leb-false, eqb-true}
use Rattle.texts.specs.Numerals.{value_from, largest_number, up_to, decimal_from, decimal_of}
use Rattle.texts.specs.Workings.Numerals.{appended}
use Rattle.octets.proofs.Laws.Tests.{and_l}
use Rattle.octets.specs.Characters.{is_digit, are_digits, digit_of}

-- ---- one digit

pub digit_from : (c : ℕ) → is_digit c ≡ true → 48 ≤ c
digit_from c e = leb-true 48 c (and_l (leb 48 c) (leb c 57) e)

module _ (n c : ℕ) where
  pub append_other : is_digit c ≡ false → None ≡ appended n c
  unfolding appended
  append_other e = rw e

  pub append_large : is_digit c ≡ true → largest_number < 10 * n + digit_of c → None ≡ appended n c
  unfolding appended
  append_large e l = rw (e, lt-leb (10 * n + digit_of c) largest_number l)

  pub append_digit : is_digit c ≡ true → 10 * n + digit_of c ≤ largest_number → Some (10 * n + digit_of c) ≡ appended n c
  unfolding appended
  append_digit e l = rw (e, le-leb (10 * n + digit_of c) largest_number l)

  pub record Taken (m : ℕ) : Type 0 where
    pub digit : is_digit c ≡ true
    pub value : m ≡ 10 * n + digit_of c
    pub small : m ≤ largest_number

  pub append_taken : (m : ℕ) → appended n c ≡ Some m → Taken m
  unfolding appended
  append_taken m = go (is_digit c) (leb (10 * n + digit_of c) largest_number) refl refl
    where
      go : (digit small : Bool) → is_digit c ≡ digit → leb (10 * n + digit_of c) largest_number ≡ small
          → then_some (digit && small) (10 * n + digit_of c) ≡ Some m → Taken m
      go true true d s e =
          let same : m ≡ 10 * n + digit_of c = cc e in
          record { digit = d; value = same; small = rw same (leb-true (10 * n + digit_of c) largest_number s) }
      go true false d s e = cc
      go false small d s e = cc

-- ---- a text

-- digits written on make no number smaller
value_grows : (n : ℕ) (cs : List ℕ) → n ≤ value_from n cs
unfolding value_from
value_grows n [] = omega arith
value_grows n (c ∷ cs) = let h = value_grows (10 * n + digit_of c) cs in omega arith

-- a number that takes a digit goes on with the others
from_digit : (n c : ℕ) (cs : List ℕ) (m : ℕ) → appended n c ≡ Some m → decimal_from n (c ∷ cs) ≡ decimal_from m cs
unfolding decimal_from are_digits value_from
from_digit n c cs m e = let t = append_taken n c m e in rw (t.digit, t.value)

-- with a digit that it does not take, or no digit, the text says no number
from_other : (n c : ℕ) (cs : List ℕ) → appended n c ≡ None → decimal_from n (c ∷ cs) ≡ None
unfolding appended decimal_from are_digits value_from
from_other n c cs = go (is_digit c) (leb (10 * n + digit_of c) largest_number) refl
  where
    large : (digits : Bool) (m : ℕ) → largest_number < m → up_to digits m ≡ None
    large true m l = rw (lt-leb m largest_number l)
    large false m l = refl

    go : (digit small : Bool) → leb (10 * n + digit_of c) largest_number ≡ small
        → then_some (digit && small) (10 * n + digit_of c) ≡ None → up_to (digit && are_digits cs) (value_from (10 * n + digit_of c) cs) ≡ None
    go true true s e = cc
    go true false s e =
        let l = leb-false (10 * n + digit_of c) largest_number s in
        let h = value_grows (10 * n + digit_of c) cs in
        large (are_digits cs) (value_from (10 * n + digit_of c) cs) (omega arith)
    go false small s e = refl

pub decimal_empty : (text : List ℕ) → (length text == 0) ≡ true → None ≡ decimal_of text
unfolding decimal_of
decimal_empty [] e = refl
decimal_empty (c ∷ cs) e =
    let none : length (c ∷ cs) ≡ 0 = eqb-true (length (c ∷ cs)) 0 e in
    absurd (omega arith)

pub decimal_begins : (text : List ℕ) → (length text == 0) ≡ false → decimal_of text ≡ decimal_from 0 text
unfolding decimal_of
decimal_begins [] e = cc
decimal_begins (c ∷ cs) e = refl

module _ (text : List ℕ) (n k : ℕ) where
  pub decimal_next : (m : ℕ) → k < length text → appended n (get_or text k 0) ≡ Some m → decimal_from n (drop k text) ≡ decimal_from m (drop (k + 1) text)
  decimal_next m l e = rw (drop-cons text k 0 l, add-one) (from_digit n (get_or text k 0) (drop (suc k) text) m e)

  pub decimal_stops : k < length text → appended n (get_or text k 0) ≡ None → decimal_from n (drop k text) ≡ None
  decimal_stops l e = rw (drop-cons text k 0 l) (from_other n (get_or text k 0) (drop (suc k) text) e)

  pub decimal_done : length text ≤ k → n ≤ largest_number → decimal_from n (drop k text) ≡ Some n
  unfolding decimal_from are_digits value_from
  decimal_done l h = rw (drop_of_length-le text l, le-leb n largest_number h)
