-- Numbers in decimal.
--     one_digit, more_digits      a number below 10, and one above
--     tenth                       where there is a digit more, there is room for it
--     said_from, decimal_right     the digits say the number
--     decimal_long, wide_long     how many digits: at most k below 10 ^ k, so at most 20 below 2 ^ 64
--     no_zero_first               the first digit of a number above 0 is not 0
--     AllDigits, all_digits       each octet is one of 48 to 57
-- Assumes nothing.
use mathlib.Core.Path.{◌≡◌, refl, ap}
use mathlib.Core.List.{List, [], ◌∷◌, ◌++◌}
use mathlib.Core.Bool.{Bool, true, false}
use Prim.Native.Nat.{ℕ, zero, suc, ◌+◌, ◌-◌, ◌*◌, ◌/◌, ◌%◌, ◌^◌, ◌≤◌, ◌<◌}
use native.Mathlib.Nat.{pow-suc}
use native.Mathlib.Omega.{arith}
use lib.ListN.{length, get_or, length-append, get_or-append}
use lib.Dec.{ltb}
use borrow.Author.Tests.{lt-ltb, le-ltb, ltb-true, ltb-false}
use Rattle.texts.specs.Texts.{digits_by, decimal}

-- the digits are the same, however many more there might be
by_most : (f g n : ℕ) → n < f → n < g → digits_by f n ≡ digits_by g n
unfolding digits_by
by_most zero g n h l = absurd (omega arith)
by_most (suc f) zero n h l = absurd (omega arith)
by_most (suc f) (suc g) n h l = go (by_most f g (n / 10)) (ltb n 10) refl
  where
    go : (n / 10 < f → n / 10 < g → digits_by f (n / 10) ≡ digits_by g (n / 10)) → (t : Bool) → ltb n 10 ≡ t
        → ◌≡◌ {A = List ℕ} (elim t [ true ↦ (48 + n) ∷ [] | false ↦ digits_by f (n / 10) ++ ((48 + n % 10) ∷ []) ])
        (elim t [ true ↦ (48 + n) ∷ [] | false ↦ digits_by g (n / 10) ++ ((48 + n % 10) ∷ []) ])
    go e true t = refl
    go e false t =
        let k : 10 ≤ n = ltb-false n 10 t in
        ap (λ (l : List ℕ). l ++ ((48 + n % 10) ∷ [])) (e (omega arith) (omega arith))

pub one_digit : (n : ℕ) → n < 10 → decimal n ≡ (48 + n) ∷ []
unfolding decimal digits_by
one_digit n h = rw (lt-ltb n 10 h, digits_by)

pub more_digits : (n : ℕ) → 10 ≤ n → decimal n ≡ decimal (n / 10) ++ ((48 + n % 10) ∷ [])
unfolding decimal digits_by
more_digits n h =
    rw (le-ltb n 10 h, digits_by) (ap (λ (l : List ℕ). l ++ ((48 + n % 10) ∷ [])) (by_most n (suc (n / 10)) (n / 10) (omega arith) (omega arith)))

-- a number with i digits at most that has more than one: it has two at least, and a tenth of it has one fewer
pub tenth : (n i : ℕ) → 10 ≤ n → n < 10 ^ i → (2 ≤ i) × (n / 10 < 10 ^ (i - 1))
tenth n zero h l = absurd (omega arith)
tenth n (suc zero) h l = absurd (omega arith)
tenth n (suc (suc i)) h l =
    let k : n < 10 ^ suc i * 10 = rw (pow-suc 10 (suc i)) at l in
    let t : n / 10 < 10 ^ suc i = omega arith in
    let e : suc (suc i) - 1 ≡ suc i = omega arith in
    (omega arith, rw e t)

-- ---- what the digits say

abbrev pub said_from : ℕ → List ℕ → ℕ
said_from n [] = n
said_from n (b ∷ bs) = said_from (10 * n + (b - 48)) bs

said_snoc : (n : ℕ) (bs : List ℕ) (b : ℕ) → said_from n (bs ++ (b ∷ [])) ≡ 10 * said_from n bs + (b - 48)
said_snoc n [] b = refl
said_snoc n (c ∷ bs) b = said_snoc (10 * n + (c - 48)) bs b

-- what holds of each number below 10, and of any other if it holds of a tenth of it
module _ (P : ℕ → Type 0) (one : (n : ℕ) → n < 10 → P n) (more : (n : ℕ) → 10 ≤ n → P (n / 10) → P n) where
  below : (f n : ℕ) → n < f → P n
  below zero n h = absurd (omega arith)
  below (suc f) n h = go (below f (n / 10)) (ltb n 10) refl
    where
      go : (n / 10 < f → P (n / 10)) → (t : Bool) → ltb n 10 ≡ t → P n
      go before true t = one n (ltb-true n 10 t)
      go before false t = let k : 10 ≤ n = ltb-false n 10 t in more n k (before (omega arith))

  by_tenths : (n : ℕ) → P n
  by_tenths n = below (suc n) n (omega arith)

pub decimal_right : (n : ℕ) → said_from 0 (decimal n) ≡ n
decimal_right =
    by_tenths (λ (n : ℕ). said_from 0 (decimal n) ≡ n)
    (λ (n : ℕ) (h : n < 10). rw (one_digit n h) (omega arith))
    (λ (n : ℕ) (h : 10 ≤ n) (e : said_from 0 (decimal (n / 10)) ≡ n / 10). rw (more_digits n h, said_snoc 0 (decimal (n / 10)) (48 + n % 10), e) (omega arith))

-- ---- their number, and the first

pub decimal_long : (n k : ℕ) → n < 10 ^ k → 0 < k → length (decimal n) ≤ k
decimal_long n zero h l = absurd (omega arith)
decimal_long n (suc k) h l = go (decimal_long (n / 10) k) (ltb n 10) refl
  where
    go : (n / 10 < 10 ^ k → 0 < k → length (decimal (n / 10)) ≤ k) → (t : Bool) → ltb n 10 ≡ t → length (decimal n) ≤ suc k
    go before true t = rw (one_digit n (ltb-true n 10 t)) (omega arith)
    go before false t =
        let b : 10 ≤ n = ltb-false n 10 t in
        let e : suc k - 1 ≡ k = omega arith in
        let shorter = tenth n (suc k) b h in
        let less : n / 10 < 10 ^ k = rw e at shorter.1 in
        rw (more_digits n b, length-append) (omega (arith, before less (omega (arith, shorter.0))))

pub wide_long : (n : ℕ) → n < 2 ^ 64 → length (decimal n) ≤ 20
wide_long n h = decimal_long n 20 (omega arith) (omega arith)

pub no_zero_first : (n : ℕ) → 0 < n → 48 < get_or (decimal n) 0 0
no_zero_first =
    by_tenths (λ (n : ℕ). 0 < n → 48 < get_or (decimal n) 0 0)
    (λ (n : ℕ) (h : n < 10) (l : 0 < n). rw (one_digit n h) (omega arith))
    (λ (n : ℕ) (h : 10 ≤ n) (e : 0 < n / 10 → 48 < get_or (decimal (n / 10)) 0 0) (l : 0 < n).
    let some = e (omega arith) in
    rw (more_digits n h, get_or-append (decimal (n / 10)) ((48 + n % 10) ∷ []) 0 0 (longer (decimal (n / 10)) some)) some)
  where
    longer : (bs : List ℕ) → 48 < get_or bs 0 0 → 0 < length bs
    longer [] h = absurd (omega arith)
    longer (b ∷ bs) h = omega arith

-- ---- each octet is a digit

abbrev pub AllDigits : List ℕ → Type 0
AllDigits [] = Unit {0}
AllDigits (b ∷ bs) = (48 ≤ b) × (b ≤ 57) × AllDigits bs

digits_snoc : (bs : List ℕ) (b : ℕ) → AllDigits bs → 48 ≤ b → b ≤ 57 → AllDigits (bs ++ (b ∷ []))
digits_snoc [] b d l h = (l, h, tt)
digits_snoc (c ∷ bs) b d l h = (d.0, d.1, digits_snoc bs b d.2 l h)

pub all_digits : (n : ℕ) → AllDigits (decimal n)
all_digits =
    by_tenths (λ (n : ℕ). AllDigits (decimal n))
    (λ (n : ℕ) (h : n < 10). rw (one_digit n h) (omega arith, omega arith, tt))
    (λ (n : ℕ) (h : 10 ≤ n) (d : AllDigits (decimal (n / 10))).
    rw (more_digits n h) (digits_snoc (decimal (n / 10)) (48 + n % 10) d (omega arith) (omega arith)))
