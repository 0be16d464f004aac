-- The length octets, written and read.
--     part_octets        a stretch of octets is octets
--     length_reads       where length octets are written, the length is read, and is sound
--     length_written     a sound length that is read is written in the octets from which it is read
-- Assumes nothing.
use mathlib.Core.Path.{◌≡◌, refl, sym, ap, ◌∙◌}
use mathlib.Core.List.{List, [], ◌∷◌}
use mathlib.Core.Bool.{Bool, true, false, not, ◌&&◌, ◌||◌}
use Prim.Native.Nat.{ℕ, zero, suc, ◌+◌, ◌-◌, ◌≤◌, ◌<◌}
use native.Mathlib.Omega.{arith}
use lib.ListN.{length}
use lib.Dec.{ltb, leb, eqb}
use borrow.Author.Tests.{lt-ltb, le-ltb, ltb-true, ltb-false, ne_eqb, le-leb, leb-true}
use Rattle.trees.specs.Numbers.{number_octets}
use Rattle.trees.specs.Trees.{length_octets}
use Rattle.der.specs.Header.{length_of, long_ok, length_ok, header_size}
use Rattle.octets.specs.Octets.{Octets, octet_at, octets_from}
use Rattle.octets.specs.Numbers.{number_of}
use Rattle.octets.proofs.Laws.Octets.{octets_long, octets_at}
use Rattle.octets.proofs.Laws.Tests.{and_l, and_r}
use Rattle.octets.proofs.Laws.Parts.{head_same, tail_same, part_same}
use Rattle.trees.proofs.Laws.Identifier.{unequal}
use Rattle.trees.proofs.Laws.Numbers.{number_reads, number_high, number_written, number_fits}

pub part_octets : (s : List ℕ) → Octets s → (at n : ℕ) → Octets (octets_from s at n)
unfolding octets_from
part_octets s o at zero i = omega arith
part_octets s o at (suc n) zero = o at
part_octets s o at (suc n) (suc i) = part_octets s o (at + 1) n i

-- ---- by the form

octets_short : (n : ℕ) → n < 128 → length_octets n ≡ n ∷ []
unfolding length_octets
octets_short n h = rw (lt-ltb n 128 h)

octets_long_form : (n : ℕ) → 128 ≤ n → length_octets n ≡ (128 + length (number_octets n)) ∷ number_octets n
unfolding length_octets
octets_long_form n h = rw (le-ltb n 128 h)

-- ---- written, then read

-- a length of n that takes `size` octets is read
pub record Length (s : List ℕ) (at size n : ℕ) : Type 0 where
  pub skip : header_size s at ≡ suc size
  pub said : length_of s at ≡ n
  pub sound : length_ok s at ≡ true

read_short : (s : List ℕ) (at n : ℕ) → octet_at s (at + 1) ≡ n → n < 128 → Length s at 1 n
read_short s at n e h =
    record {
      skip = omega arith;
      said = rw (e, lt-ltb n 128 h);
      sound = rw (e, lt-ltb n 128 h);
    }

module _ (s : List ℕ) (at n k : ℕ) (e : octet_at s (at + 1) ≡ 128 + k) (f : number_of (octets_from s (at + 2) k) ≡ n) where
  said_long : length_of s at ≡ n
  said_long =
      let l : 128 ≤ 128 + k = omega arith in
      let m : 128 + k - 128 ≡ k = omega arith in
      rw (e, le-ltb (128 + k) 128 l, m) f

  read_long : (octet_at s (at + 2) ≡ 0 → ⊥) → 1 ≤ k → k < 127 → 128 ≤ n → Length s at (suc k) n
  read_long high some few long =
      let l : 128 ≤ 128 + k = omega arith in
      let a : 128 + k ≡ 128 → ⊥ = omega arith in
      let b : 128 + k ≡ 255 → ⊥ = omega arith in
      record {
        skip = omega arith;
        said = said_long;
        sound =
            (λ i. ltb (e i) 128 || long_ok (e i) (octet_at s (at + 2)) (said_long i))
            ∙ rw (le-ltb (128 + k) 128 l, ne_eqb (128 + k) 128 a, ne_eqb (128 + k) 255 b, ne_eqb (octet_at s (at + 2)) 0 high, le-leb 128 n long);
      }

some_octet : (l : List ℕ) → (octet_at l 0 ≡ 0 → ⊥) → 1 ≤ length l
some_octet [] f = absurd (f refl)
some_octet (b ∷ bs) f = omega arith

pub length_reads : (s : List ℕ) (at n : ℕ) → length (number_octets n) < 127
    → octets_from s (at + 1) (length (length_octets n)) ≡ length_octets n → Length s at (length (length_octets n)) n
unfolding octets_from
length_reads s at n few e = go (ltb n 128) refl
  where
    go : (b : Bool) → ltb n 128 ≡ b → Length s at (length (length_octets n)) n
    go true t =
        let h = ltb-true n 128 t in
        let f = octets_short n h in
        rw f (read_short s at n (head_same _ _ _ _ (rw f at e)) h)
    go false t =
        let h = ltb-false n 128 t in
        let f = octets_long_form n h in
        let bs = number_octets n in
        let g : octet_at s (at + 1) ∷ octets_from s (at + 1 + 1) (length bs) ≡ (128 + length bs) ∷ bs = rw f at e in
        let two : at + 2 ≡ at + 1 + 1 = omega arith in
        let p : octets_from s (at + 2) (length bs) ≡ bs = part_same s (at + 2) (at + 1 + 1) (length bs) (length bs) two refl ∙ tail_same _ _ _ _ g in
        let high : octet_at bs 0 ≡ 0 → ⊥ = number_high n (omega arith) in
        let some = some_octet bs high in
        let z : at + 2 + 0 ≡ at + 2 = omega arith in
        let first : octet_at bs 0 ≡ octet_at s (at + 2) =
        ap (λ (l : List ℕ). octet_at l 0) (sym p) ∙ (octets_at s (at + 2) (length bs) 0 some ∙ ap (octet_at s) z) in
        rw f (read_long s at n (length bs) (head_same _ _ _ _ g) (ap number_of p ∙ number_reads n) (λ z. high (first ∙ z)) some few h)

-- ---- read, then written

pub record LengthWritten (s : List ℕ) (at : ℕ) : Type 0 where
  pub few : length (number_octets (length_of s at)) < 127
  pub octets : length_octets (length_of s at) ≡ octets_from s (at + 1) (suc (octet_at s (at + 1) - 128))

module _ (s : List ℕ) (at : ℕ) (o : Octets s) where
  abbrev first : ℕ
  first = octet_at s (at + 1)

  abbrev high : ℕ
  high = octet_at s (at + 2)

  write_short : first < 128 → LengthWritten s at
  unfolding octets_from
  write_short h =
      let e = (read_short s at first refl h).said in
      let k = number_fits first 1 (omega arith) (omega arith) in
      record {
        few = rw e (omega arith);
        octets = ap length_octets e ∙ (octets_short first h ∙ part_same s (at + 1) (at + 1) 1 (suc (first - 128)) refl (omega arith));
      }

  module _ (h : 128 ≤ first) (a : first ≡ 128 → ⊥) (b : first ≡ 255 → ⊥) (c : high ≡ 0 → ⊥) (d : 128 ≤ length_of s at) where
    abbrev said : List ℕ
    said = octets_from s (at + 2) (first - 128)

    write_same : number_octets (length_of s at) ≡ said
    write_same =
        let m : 128 + (first - 128) ≡ first = omega arith in
        let z : at + 2 + 0 ≡ at + 2 = omega arith in
        let same : octet_at said 0 ≡ high = octets_at s (at + 2) (first - 128) 0 (omega arith) ∙ ap (octet_at s) z in
        ap number_octets (said_long s at (number_of said) (first - 128) (sym m) refl)
        ∙ number_written said (part_octets s o (at + 2) (first - 128)) (λ e. c (sym same ∙ e))

    write_long : LengthWritten s at
    unfolding octets_from
    write_long =
        let n : length (number_octets (length_of s at)) ≡ first - 128 = ap length write_same ∙ octets_long s (at + 2) (first - 128) in
        let e : 128 + length (number_octets (length_of s at)) ≡ first = omega arith in
        let two : at + 2 ≡ at + 1 + 1 = omega arith in
        let l = o (at + 1) in
        record {
          few = omega arith;
          octets =
              octets_long_form (length_of s at) d
              ∙ (λ i. e i ∷ (write_same ∙ part_same s (at + 2) (at + 1 + 1) (first - 128) (first - 128) two refl) i);
        }

  pub length_written : length_ok s at ≡ true → LengthWritten s at
  length_written k = go (ltb first 128) refl k
    where
      go : (b : Bool) → ltb first 128 ≡ b → (b || long_ok first high (length_of s at)) ≡ true → LengthWritten s at
      go true t k = write_short (ltb-true first 128 t)
      go false t k =
          let low = and_l (not (eqb first 128) && not (eqb first 255)) (not (eqb high 0) && leb 128 (length_of s at)) k in
          let rest = and_r (not (eqb first 128) && not (eqb first 255)) (not (eqb high 0) && leb 128 (length_of s at)) k in
          write_long (ltb-false first 128 t)
          (unequal first 128 (and_l (not (eqb first 128)) (not (eqb first 255)) low))
          (unequal first 255 (and_r (not (eqb first 128)) (not (eqb first 255)) low))
          (unequal high 0 (and_l (not (eqb high 0)) (leb 128 (length_of s at)) rest))
          (leb-true 128 (length_of s at) (and_r (not (eqb high 0)) (leb 128 (length_of s at)) rest))
