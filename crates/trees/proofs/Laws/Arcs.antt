-- OBJECT IDENTIFIERs, written and read.
--     arc_short          one octet says a number below 128
--     arcs_before, arcs_read     subidentifiers that are written read back, whatever stands behind them
--     arcs_join          some behind others
--     arcs_pass          what is written passes the test that is made of contents
--     arcs_written       octets that pass the test are what is written for the subidentifiers that are read
--     apart, apart_one   the first subidentifier comes apart into two arcs, in one way
--     oid_passes         the contents of arcs pass the test
--     oid_octets         they are octets
--     oid_reads          they say the arcs
--     oid_written        contents that pass the test are those of the arcs that they say
-- Assumes nothing.
use mathlib.Core.Path.{◌≡◌, refl, sym, ap, subst, ◌∙◌}
use mathlib.Core.List.{List, [], ◌∷◌, ◌++◌, append-nil, append_assoc}
use mathlib.Core.Bool.{Bool, true, false, cond, not}
use Prim.Native.Nat.{ℕ, zero, suc, ◌+◌, ◌-◌, ◌*◌, ◌%◌, ◌/◌, ◌≤◌, ◌<◌}
use native.Mathlib.Omega.{arith}
use lib.ListN.{length}
use lib.Dec.{ltb, eqb}
use borrow.Author.Tests.{lt-ltb, le-ltb, ltb-true, ltb-false, ne_eqb, eqb-true, eqb-false}
use Rattle.trees.specs.Values.{Arcs}
use Rattle.der.specs.Contents.{arcs_ok, oid_ok}
use Rattle.der.specs.Oids.{sevens, subidentifier, subidentifiers, oid}
use Rattle.octets.specs.Octets.{Octets}
use Rattle.octets.proofs.Laws.Tests.{and_l}
use Rattle.trees.proofs.Laws.Numbers.{octets_put}
use Rattle.trees.proofs.Laws.Identifier.{unequal}

-- ---- one subidentifier

sevens_none : (fuel : ℕ) (after : List ℕ) → sevens fuel 0 after ≡ after
unfolding sevens
sevens_none zero after = refl
sevens_none (suc fuel) after = refl

sevens_more : (fuel n : ℕ) (after : List ℕ) → 1 ≤ n → sevens (suc fuel) n after ≡ sevens fuel (n / 128) ((128 + n % 128) ∷ after)
unfolding sevens
sevens_more fuel n after h = rw (ne_eqb n 0 (λ e. omega arith), sevens)

-- what holds where nothing is left, and of each step if it holds of the next
module _ (P : ℕ → List ℕ → List ℕ → Type 0)
    (none : (after : List ℕ) → P 0 after after)
    (more : (n : ℕ) (after bs : List ℕ) → 1 ≤ n → P (n / 128) ((128 + n % 128) ∷ after) bs → P n after bs) where
  sevens_steps : (fuel n : ℕ) (after : List ℕ) → n ≤ fuel → P n after (sevens fuel n after)
  sevens_steps zero n after h =
      let e : n ≡ 0 = omega arith in
      rw e (rw (sevens_none 0 after) (none after))
  sevens_steps (suc fuel) n after h = go (eqb n 0) refl (sevens_steps fuel (n / 128) ((128 + n % 128) ∷ after))
    where
      go : (b : Bool) → eqb n 0 ≡ b
          → (n / 128 ≤ fuel → P (n / 128) ((128 + n % 128) ∷ after) (sevens fuel (n / 128) ((128 + n % 128) ∷ after)))
          → P n after (sevens (suc fuel) n after)
      go true e ih =
          let z = eqb-true n 0 e in
          rw z (rw (sevens_none (suc fuel) after) (none after))
      go false e ih =
          let z = eqb-false n 0 e in
          let l : 1 ≤ n = omega arith in
          rw (sevens_more fuel n after l) (more n after (sevens fuel (n / 128) ((128 + n % 128) ∷ after)) l (ih (omega arith)))

sevens_join : (fuel n : ℕ) (after rest : List ℕ) → sevens fuel n after ++ rest ≡ sevens fuel n (after ++ rest)
unfolding sevens
sevens_join zero n after rest = refl
sevens_join (suc fuel) n after rest = go (eqb n 0) refl (sevens_join fuel (n / 128) ((128 + n % 128) ∷ after) rest)
  where
    go : (b : Bool) → eqb n 0 ≡ b
        → sevens fuel (n / 128) ((128 + n % 128) ∷ after) ++ rest ≡ sevens fuel (n / 128) ((128 + n % 128) ∷ after ++ rest)
        → sevens (suc fuel) n after ++ rest ≡ sevens (suc fuel) n (after ++ rest)
    go true e ih = rw (e, sevens)
    go false e ih = rw (e, sevens) ih

-- more fuel than the number changes nothing
sevens_fuel : (f g n : ℕ) (after : List ℕ) → n ≤ f → n ≤ g → sevens f n after ≡ sevens g n after
sevens_fuel zero g n after p q =
    let e : n ≡ 0 = omega arith in
    rw e (sevens_none 0 after ∙ sym (sevens_none g after))
sevens_fuel (suc f) zero n after p q =
    let e : n ≡ 0 = omega arith in
    rw e (sevens_none (suc f) after ∙ sym (sevens_none 0 after))
sevens_fuel (suc f) (suc g) n after p q = go (eqb n 0) refl (sevens_fuel f g (n / 128) ((128 + n % 128) ∷ after))
  where
    go : (b : Bool) → eqb n 0 ≡ b
        → (n / 128 ≤ f → n / 128 ≤ g → sevens f (n / 128) ((128 + n % 128) ∷ after) ≡ sevens g (n / 128) ((128 + n % 128) ∷ after))
        → sevens (suc f) n after ≡ sevens (suc g) n after
    go true e ih = let z = eqb-true n 0 e in rw z (sevens_none (suc f) after ∙ sym (sevens_none (suc g) after))
    go false e ih =
        let z = eqb-false n 0 e in
        let l : 1 ≤ n = omega arith in
        sevens_more f n after l ∙ (ih (omega arith) (omega arith) ∙ sym (sevens_more g n after l))

before_rest : (n : ℕ) (rest : List ℕ) → subidentifier n ++ rest ≡ sevens n (n / 128) (n % 128 ∷ rest)
unfolding subidentifier
before_rest n rest = sevens_join n (n / 128) (n % 128 ∷ []) rest

-- one octet says a number below 128
pub arc_short : (n : ℕ) → n < 128 → subidentifier n ≡ n ∷ []
unfolding subidentifier
arc_short n h =
    let p : n / 128 ≡ 0 = omega arith in
    let q : n % 128 ≡ n = omega arith in
    (λ i. sevens n (p i) (q i ∷ [])) ∙ sevens_none n (n ∷ [])

-- ---- written, then read

-- the subidentifiers that octets say, of which the first has begun and says n so far
unfoldable pub arcs_from : ℕ → List ℕ → List ℕ
arcs_from n [] = []
arcs_from n (b ∷ bs) = cond (ltb b 128) ((128 * n + b) ∷ arcs_from 0 bs) (arcs_from (128 * n + (b - 128)) bs)

from_last : (n b : ℕ) (bs : List ℕ) → b < 128 → arcs_from n (b ∷ bs) ≡ (128 * n + b) ∷ arcs_from 0 bs
unfolding arcs_from
from_last n b bs h = rw (lt-ltb b 128 h)

from_more : (n b : ℕ) (bs : List ℕ) → 128 ≤ b → arcs_from n (b ∷ bs) ≡ arcs_from (128 * n + (b - 128)) bs
unfolding arcs_from
from_more n b bs h = rw (le-ltb b 128 h)

sevens_read : (fuel n : ℕ) (after : List ℕ) → n ≤ fuel → arcs_from 0 (sevens fuel n after) ≡ arcs_from n after
sevens_read = sevens_steps (λ n after bs. arcs_from 0 bs ≡ arcs_from n after) (λ after. refl) more
  where
    more : (n : ℕ) (after bs : List ℕ) → 1 ≤ n → arcs_from 0 bs ≡ arcs_from (n / 128) ((128 + n % 128) ∷ after)
        → arcs_from 0 bs ≡ arcs_from n after
    more n after bs h f =
        let e : 128 * (n / 128) + (128 + n % 128 - 128) ≡ n = omega arith in
        f ∙ (from_more (n / 128) (128 + n % 128) after (omega arith) ∙ ap (λ (m : ℕ). arcs_from m after) e)

-- whatever stands behind them
pub arcs_before : (ns x : List ℕ) → arcs_from 0 (subidentifiers ns ++ x) ≡ ns ++ arcs_from 0 x
unfolding subidentifiers
arcs_before [] x = refl
arcs_before (n ∷ ns) x =
    let e : 128 * (n / 128) + n % 128 ≡ n = omega arith in
    ap (arcs_from 0) (append_assoc (subidentifier n) (subidentifiers ns) x ∙ before_rest n (subidentifiers ns ++ x))
    ∙ (sevens_read n (n / 128) (n % 128 ∷ subidentifiers ns ++ x) (omega arith)
    ∙ (from_last (n / 128) (n % 128) (subidentifiers ns ++ x) (omega arith) ∙ λ i. e i ∷ arcs_before ns x i))

pub arcs_read : (ns : List ℕ) → arcs_from 0 (subidentifiers ns) ≡ ns
unfolding arcs_from
arcs_read ns = ap (arcs_from 0) (sym (append-nil (subidentifiers ns))) ∙ (arcs_before ns [] ∙ append-nil ns)

pub arcs_join : (ns ms : List ℕ) → subidentifiers (ns ++ ms) ≡ subidentifiers ns ++ subidentifiers ms
unfolding subidentifiers
arcs_join [] ms = refl
arcs_join (n ∷ ns) ms =
    ap (λ (l : List ℕ). subidentifier n ++ l) (arcs_join ns ms) ∙ sym (append_assoc (subidentifier n) (subidentifiers ns) (subidentifiers ms))

-- ---- the test

ok_last : (fresh : Bool) (b : ℕ) (bs : List ℕ) → b < 128 → arcs_ok fresh (b ∷ bs) ≡ arcs_ok true bs
unfolding arcs_ok
ok_last true b bs h = rw (ne_eqb b 128 (λ e. omega arith), lt-ltb b 128 h)
ok_last false b bs h = rw (lt-ltb b 128 h)

ok_first : (b : ℕ) (bs : List ℕ) → 128 < b → arcs_ok true (b ∷ bs) ≡ arcs_ok false bs
unfolding arcs_ok
ok_first b bs h = rw (ne_eqb b 128 (λ e. omega arith), le-ltb b 128 (let l : 128 ≤ b = omega arith in l))

ok_next : (b : ℕ) (bs : List ℕ) → 128 ≤ b → arcs_ok false (b ∷ bs) ≡ arcs_ok false bs
unfolding arcs_ok
ok_next b bs h = rw (le-ltb b 128 h)

sevens_pass : (fuel n : ℕ) (after : List ℕ) → n ≤ fuel → arcs_ok true (sevens fuel n after) ≡ arcs_ok (eqb n 0) after
sevens_pass = sevens_steps (λ n after bs. arcs_ok true bs ≡ arcs_ok (eqb n 0) after) (λ after. refl) more
  where
    more : (n : ℕ) (after bs : List ℕ) → 1 ≤ n → arcs_ok true bs ≡ arcs_ok (eqb (n / 128) 0) ((128 + n % 128) ∷ after)
        → arcs_ok true bs ≡ arcs_ok (eqb n 0) after
    more n after bs h f = f ∙ (go (eqb (n / 128) 0) refl ∙ sym (ap (λ (t : Bool). arcs_ok t after) (ne_eqb n 0 (λ e. omega arith))))
      where
        go : (t : Bool) → eqb (n / 128) 0 ≡ t → arcs_ok t ((128 + n % 128) ∷ after) ≡ arcs_ok false after
        go true e = let z = eqb-true (n / 128) 0 e in ok_first (128 + n % 128) after (omega arith)
        go false e = ok_next (128 + n % 128) after (omega arith)

pub arcs_pass : (ns : List ℕ) → arcs_ok true (subidentifiers ns) ≡ true
unfolding subidentifiers arcs_ok
arcs_pass [] = refl
arcs_pass (n ∷ ns) =
    ap (arcs_ok true) (before_rest n (subidentifiers ns))
    ∙ (sevens_pass n (n / 128) (n % 128 ∷ subidentifiers ns) (omega arith)
    ∙ (ok_last (eqb (n / 128) 0) (n % 128) (subidentifiers ns) (omega arith) ∙ arcs_pass ns))

-- ---- read, then written

write_last : (n b : ℕ) (bs : List ℕ) → b < 128 → subidentifier (128 * n + b) ++ bs ≡ sevens (128 * n + b) n (b ∷ bs)
write_last n b bs h =
    let p : (128 * n + b) / 128 ≡ n = omega arith in
    let q : (128 * n + b) % 128 ≡ b = omega arith in
    before_rest (128 * n + b) bs ∙ λ i. sevens (128 * n + b) (p i) (q i ∷ bs)

-- an octet with bit 8 set is written for what it adds
write_more : (fuel n b : ℕ) (bs : List ℕ) → 128 ≤ b → b < 256 → 1 ≤ 128 * n + (b - 128)
    → sevens (suc fuel) (128 * n + (b - 128)) bs ≡ sevens fuel n (b ∷ bs)
write_more fuel n b bs h k l =
    let p : (128 * n + (b - 128)) / 128 ≡ n = omega arith in
    let q : 128 + (128 * n + (b - 128)) % 128 ≡ b = omega arith in
    sevens_more fuel (128 * n + (b - 128)) bs l ∙ λ i. sevens fuel (p i) (q i ∷ bs)

-- octets before which no subidentifier has begun; and octets before which one has, that says n so far
record Written (bs : List ℕ) : Type 0 where
  fresh : arcs_ok true bs ≡ true → subidentifiers (arcs_from 0 bs) ≡ bs
  begun : (n fuel : ℕ) → 1 ≤ n → n ≤ fuel → arcs_ok false bs ≡ true → subidentifiers (arcs_from n bs) ≡ sevens fuel n bs

module _ (b : ℕ) (bs : List ℕ) (o : b < 256) (w : Written bs) where
  next_last : (n : ℕ) → b < 128 → arcs_ok true bs ≡ true → subidentifiers (arcs_from n (b ∷ bs)) ≡ sevens (128 * n + b) n (b ∷ bs)
  unfolding subidentifiers
  next_last n h e =
      ap subidentifiers (from_last n b bs h)
      ∙ (ap (λ (l : List ℕ). subidentifier (128 * n + b) ++ l) (w.fresh e) ∙ write_last n b bs h)

  next_more : (n : ℕ) → 128 ≤ b → 1 ≤ 128 * n + (b - 128) → arcs_ok false bs ≡ true
      → subidentifiers (arcs_from n (b ∷ bs)) ≡ sevens (128 * n + (b - 128)) n (b ∷ bs)
  next_more n h k e =
      ap subidentifiers (from_more n b bs h)
      ∙ (w.begun (128 * n + (b - 128)) (suc (128 * n + (b - 128))) k (omega arith) e ∙ write_more (128 * n + (b - 128)) n b bs h o k)

  next_fresh : (t : Bool) → ltb b 128 ≡ t → arcs_ok true (b ∷ bs) ≡ true → subidentifiers (arcs_from 0 (b ∷ bs)) ≡ b ∷ bs
  unfolding arcs_ok
  next_fresh true f e =
      let h = ltb-true b 128 f in
      next_last 0 h (sym (ok_last true b bs h) ∙ e) ∙ sevens_none (128 * 0 + b) (b ∷ bs)
  next_fresh false f e =
      let h = ltb-false b 128 f in
      let z = unequal b 128 (and_l (not (eqb b 128)) (arcs_ok (ltb b 128) bs) e) in
      next_more 0 h (omega arith) (sym (ok_first b bs (omega arith)) ∙ e) ∙ sevens_none (128 * 0 + (b - 128)) (b ∷ bs)

  next_begun : (t : Bool) → ltb b 128 ≡ t → (n fuel : ℕ) → 1 ≤ n → n ≤ fuel → arcs_ok false (b ∷ bs) ≡ true
      → subidentifiers (arcs_from n (b ∷ bs)) ≡ sevens fuel n (b ∷ bs)
  next_begun true f n fuel k l e =
      let h = ltb-true b 128 f in
      next_last n h (sym (ok_last false b bs h) ∙ e) ∙ sevens_fuel (128 * n + b) fuel n (b ∷ bs) (omega arith) l
  next_begun false f n fuel k l e =
      let h = ltb-false b 128 f in
      next_more n h (omega arith) (sym (ok_next b bs h) ∙ e) ∙ sevens_fuel (128 * n + (b - 128)) fuel n (b ∷ bs) (omega arith) l

written : (bs : List ℕ) → Octets bs → Written bs
unfolding subidentifiers arcs_from arcs_ok
written [] o = record { fresh = λ e. refl; begun = λ n fuel k l e. cc }
written (b ∷ bs) o =
    let w = written bs (λ i. o (suc i)) in
    record { fresh = next_fresh b bs (o 0) w (ltb b 128) refl; begun = next_begun b bs (o 0) w (ltb b 128) refl }

pub arcs_written : (bs : List ℕ) → Octets bs → arcs_ok true bs ≡ true → subidentifiers (arcs_from 0 bs) ≡ bs
arcs_written bs o = (written bs o).fresh

-- ---- octets

pub arcs_octets : (ns : List ℕ) → Octets (subidentifiers ns)
unfolding subidentifiers
arcs_octets [] = λ i. omega arith
arcs_octets (n ∷ ns) =
    subst Octets (sym (before_rest n (subidentifiers ns)))
    (sevens_steps (λ n after bs. Octets after → Octets bs) (λ after o. o)
    (λ n after bs h f o. f (octets_put (128 + n % 128) after (omega arith) o))
    n (n / 128) (n % 128 ∷ subidentifiers ns) (omega arith) (octets_put (n % 128) (subidentifiers ns) (omega arith) (arcs_octets ns)))

-- ---- the first two arcs

-- a subidentifier comes apart: below 40 it is 0 and itself, below 80 it is 1 and 40 less, else 2 and 80 less
pub record Apart (n : ℕ) : Type 0 where
  pub x : ℕ
  pub y : ℕ
  pub few : x < 3
  pub low : x < 2 → y < 40
  pub joined : 40 * x + y ≡ n

pub apart : (n : ℕ) → Apart n
apart n = go (ltb n 40) refl (ltb n 80) refl
  where
    go : (s : Bool) → ltb n 40 ≡ s → (t : Bool) → ltb n 80 ≡ t → Apart n
    go true e t f = let l = ltb-true n 40 e in record { x = 0; y = n; few = omega arith; low = λ h. l; joined = omega arith }
    go false e true f =
        let l = ltb-false n 40 e in
        let k = ltb-true n 80 f in
        record { x = 1; y = n - 40; few = omega arith; low = λ h. omega arith; joined = omega arith }
    go false e false f =
        let k = ltb-false n 80 f in
        record { x = 2; y = n - 80; few = omega arith; low = λ h. absurd (omega arith); joined = omega arith }

-- in one way only
pub apart_one : (x y u v : ℕ) → x < 3 → (x < 2 → y < 40) → u < 3 → (u < 2 → v < 40) → 40 * x + y ≡ 40 * u + v → (x ≡ u) × (y ≡ v)
apart_one x y u v a b c d e = go (ltb x 2) refl (ltb u 2) refl
  where
    go : (s : Bool) → ltb x 2 ≡ s → (t : Bool) → ltb u 2 ≡ t → (x ≡ u) × (y ≡ v)
    go true f true g = let p = b (ltb-true x 2 f) in let q = d (ltb-true u 2 g) in (omega arith, omega arith)
    go true f false g =
        let p = b (ltb-true x 2 f) in
        let k = ltb-true x 2 f in
        let q = ltb-false u 2 g in
        (omega arith, omega arith)
    go false f true g =
        let p = ltb-false x 2 f in
        let k = ltb-true u 2 g in
        let q = d (ltb-true u 2 g) in
        (omega arith, omega arith)
    go false f false g = let p = ltb-false x 2 f in let q = ltb-false u 2 g in (omega arith, omega arith)

-- ---- all arcs

-- the arcs that subidentifiers say, and those that contents say
abbrev parted : List ℕ → List ℕ
parted [] = []
parted (n ∷ ns) = (apart n).x ∷ (apart n).y ∷ ns

unfoldable pub arcs_of : List ℕ → List ℕ
arcs_of c = parted (arcs_from 0 c)

some_octets : (n : ℕ) (ns c : List ℕ) → subidentifiers (n ∷ ns) ≡ c → oid_ok c ≡ true
unfolding arcs_from
some_octets n ns [] e = absurd (let f : suc (length ns) ≡ 0 = ap length (sym (arcs_read (n ∷ ns)) ∙ ap (arcs_from 0) e) in omega arith)
some_octets n ns (b ∷ bs) e = sym (ap (arcs_ok true) e) ∙ arcs_pass (n ∷ ns)

pub oid_passes : (arcs : List ℕ) → Arcs arcs → oid_ok (oid arcs) ≡ true
unfolding oid Arcs
oid_passes [] a = absurd a
oid_passes (x ∷ []) a = absurd a
oid_passes (x ∷ y ∷ ns) a = some_octets (40 * x + y) ns (subidentifiers ((40 * x + y) ∷ ns)) refl

pub oid_octets : (arcs : List ℕ) → Octets (oid arcs)
unfolding oid
oid_octets [] = λ i. omega arith
oid_octets (x ∷ []) = λ i. omega arith
oid_octets (x ∷ y ∷ ns) = arcs_octets ((40 * x + y) ∷ ns)

pub oid_reads : (arcs : List ℕ) → Arcs arcs → arcs_of (oid arcs) ≡ arcs
unfolding oid Arcs arcs_of
oid_reads [] a = absurd a
oid_reads (x ∷ []) a = absurd a
oid_reads (x ∷ y ∷ ns) a =
    let p = apart (40 * x + y) in
    let q = apart_one p.x p.y x y p.few p.low a.0 a.1 p.joined in
    ap parted (arcs_read ((40 * x + y) ∷ ns)) ∙ λ i. q.0 i ∷ q.1 i ∷ ns

pub oid_written : (c : List ℕ) → Octets c → oid_ok c ≡ true → Arcs (arcs_of c) × (oid (arcs_of c) ≡ c)
unfolding subidentifiers oid Arcs arcs_of
oid_written [] o e = absurd (let k : ◌≡◌ {A = ℕ} 0 1 = cc in omega arith)
oid_written (b ∷ bs) o e = go (arcs_from 0 (b ∷ bs)) (arcs_written (b ∷ bs) o e)
  where
    go : (ns : List ℕ) → subidentifiers ns ≡ b ∷ bs → Arcs (parted ns) × (oid (parted ns) ≡ b ∷ bs)
    go [] f = absurd (let k : 0 ≡ suc (length bs) = ap length f in omega arith)
    go (n ∷ ns) f = (((apart n).few, (apart n).low), ap (λ (m : ℕ). subidentifiers (m ∷ ns)) (apart n).joined ∙ f)
