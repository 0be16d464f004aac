-- Putting texts into a buffer.
--     put_in, put_out      one octet
--     put_nothing, _⨾_     no text; one text behind the other
--     put_whole            where the buffer is large enough the text stands at its place, and all else is as it was
--     put_inside           the place behind a text is in the buffer, if the place before it is
--     grown_nothing, _then_, grown_next, grown_all     the same of texts that grow: no octets, one behind the other, octet by octet, and all of them
--     one_answer, one_text     any two answers and buffers that the contract of such a function allows coincide
-- Assumes nothing.
use mathlib.Core.Path.{◌≡◌, refl, sym, ap, ◌∙◌}
use mathlib.Core.List.{List, [], ◌∷◌, ◌++◌}
use mathlib.Core.Bool.{Bool, true, false}
use Prim.Native.Nat.{ℕ, suc, ◌+◌, ◌≤◌, ◌<◌, min, max}
use native.Mathlib.Numerals.{add-one}
use native.Mathlib.Omega.{arith}
use lib.ListN.{length, get_or, set, take, drop, length-set, length-append}
use lib.Seq.{sets, sets-eq, set_out, length-sets, take-suc, take_all}
use lib.Dec.{ltb}
use borrow.Author.Tests.{ltb-true, ltb-false}
use Rattle.texts.specs.Putting.{place_after, buffer_after, Spelled, Grown}
use Rattle.texts.specs.declared.putting.Text.{Text}
use Rattle.octets.proofs.Laws.Writing.{sets_append}

module _ (b n : ℕ) (out : List ℕ) where
  pub put_in : n < length out → Spelled (b ∷ []) n out (n + 1) (set out n b)
  unfolding place_after buffer_after
  put_in h = record { place = omega arith; octets = refl }

  pub put_out : length out ≤ n → Spelled (b ∷ []) n out n out
  unfolding place_after buffer_after
  put_out h = record { place = omega arith; octets = sym (set_out out n b h) }

pub put_nothing : (n : ℕ) (out : List ℕ) → Spelled [] n out n out
unfolding place_after buffer_after
put_nothing n out = record { place = omega arith; octets = refl }

-- ---- one text behind the other

sets_out : (vs l : List ℕ) (i : ℕ) → length l ≤ i → sets l i vs ≡ l
sets_out [] l i h = refl
sets_out (v ∷ vs) l i h = sets_out vs (set l i v) (suc i) (rw (length-set l i v) (omega arith)) ∙ set_out l i v h

module _ {us vs : List ℕ} {n m r : ℕ} {x y z : List ℕ} (p : Spelled us n x m y) (q : Spelled vs m y r z) where
  same_size : length y ≡ length x
  unfolding buffer_after
  same_size = ap length p.octets ∙ length-sets x n us

  -- where the first text does not fit, the second is put past the end, and so it is at the place where it would stand
  goes_on : sets y m vs ≡ sets y (n + length us) vs
  unfolding place_after
  goes_on =
      let e : m ≡ max n (min (n + length us) (length x)) = p.place in
      go e (ltb (length x) (n + length us)) refl
    where
      go : m ≡ max n (min (n + length us) (length x)) → (t : Bool) → ltb (length x) (n + length us) ≡ t → sets y m vs ≡ sets y (n + length us) vs
      go e true t =
          let h : length x < n + length us = ltb-true _ _ t in
          sets_out vs y m (omega (arith, same_size)) ∙ sym (sets_out vs y (n + length us) (omega (arith, same_size)))
      go e false t =
          let h : n + length us ≤ length x = ltb-false _ _ t in
          let same : m ≡ n + length us = omega arith in
          ap (λ (i : ℕ). sets y i vs) same

  infixr 20 ◌⨾◌
  pub ◌⨾◌ : Spelled (us ++ vs) n x r z
  unfolding place_after buffer_after
  ◌⨾◌ =
      record {
        place = let e : m ≡ max n (min (n + length us) (length x)) = p.place in
            let f : r ≡ max m (min (m + length vs) (length y)) = q.place in
            rw (length-append us vs) (omega (arith, same_size));
        octets = q.octets ∙ goes_on ∙ ap (λ (l : List ℕ). sets l (n + length us) vs) p.octets ∙ sym (sets_append us vs x n);
      }

-- ---- the whole text

module _ {bs : List ℕ} {n r : ℕ} {out last : List ℕ} (p : Spelled bs n out r last) where
  pub put_whole : n + length bs ≤ length out → (r ≡ n + length bs) × (last ≡ take n out ++ bs ++ drop (n + length bs) out)
  unfolding place_after buffer_after
  put_whole h = (p.place ∙ omega arith, p.octets ∙ sets-eq bs out n h)

  -- the place behind a text that starts inside the buffer is inside it
  pub put_inside : n ≤ length out → r ≤ length out
  unfolding place_after
  put_inside h = let e : r ≡ max n (min (n + length bs) (length out)) = p.place in omega arith

  pub one_answer : {r' : ℕ} {last' : List ℕ} → Spelled bs n out r' last' → (r ≡ r') × (last ≡ last')
  one_answer q = (p.place ∙ sym q.place, p.octets ∙ sym q.octets)

-- ---- texts that grow

pub grown_nothing : (t : Text) → Grown [] t t
grown_nothing t = record { spelled = put_nothing t.len t.space.now; same_space = refl }

module _ {us vs : List ℕ} {t u v : Text} where
  infixr 20 ◌then◌
  pub ◌then◌ : Grown us t u → Grown vs u v → Grown (us ++ vs) t v
  ◌then◌ p q = record { spelled = p.spelled ⨾ q.spelled; same_space = q.same_space ∙ p.same_space }

-- octet by octet
pub grown_next : (text : List ℕ) (i : ℕ) {t u v : Text} → i < length text → Grown (take i text) t u → Grown (get_or text i 0 ∷ []) u v
    → Grown (take (i + 1) text) t v
grown_next text i h p q = rw (add-one i, take-suc text i 0 h) (p then q)

pub grown_all : (text : List ℕ) (i : ℕ) {t u : Text} → length text ≤ i → Grown (take i text) t u → Grown text t u
grown_all text i h p = rw (take_all i text h) at p

pub one_text : {bs : List ℕ} {t u v : Text} → Grown bs t u → Grown bs t v → (u.len ≡ v.len) × (u.space.now ≡ v.space.now)
one_text p q = one_answer p.spelled q.spelled
