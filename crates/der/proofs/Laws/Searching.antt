-- The first element of a list that passes a test.
--     first_none                   of no elements
--     first_among, first_passes    what is found is one of the list, and passes
--     any_full                     at least one passes exactly if there is a first
--     first_missing                where there is none
--     first_join                   of two lists: in the one, or else in the other
--     children_full, any_by_first  the same of the elements of a stretch
-- Assumes nothing.
use mathlib.Core.Path.{◌≡◌, refl, sym, ap, ◌∙◌}
use mathlib.Core.List.Memᴰ
use mathlib.Core.List.{List, [], ◌∷◌, ◌++◌, Memᴰ}
use mathlib.Core.Bool.{Bool, true, false, cond, not, ◌||◌, false≢true}
use mathlib.Core.Logic.{⊎_elim}
use Prim.Native.Nat.{ℕ, ◌<◌}
use native.Mathlib.Nat.{le_refl}
use native.Mathlib.Omega.{arith}
use lib.Dec.{leb}
use borrow.Author.Tests.{le-leb, lt-leb, leb-true, leb-false}
use Rattle.der.specs.Header.{head_of, children_of}
use Rattle.der.specs.Members.{missing}
use Rattle.der.specs.Elements.{any_of, first_of, is_empty}
use Rattle.der.proofs.Terms.Walking.{Chain}
use Rattle.der.proofs.Terms.Walking.Chain.{done, next}
use Rattle.der.specs.declared.header.Head.{Head}
use Rattle.der.proofs.Laws.Header.{head_start, head_forward}
use Rattle.der.proofs.Laws.Children.{children_done}
use Rattle.der.proofs.Laws.Walking.{children_chain}

-- ---- the first that passes a test

pub missing_empty : (end : ℕ) → is_empty (missing end) ≡ true
missing_empty end = le-leb end end (le_refl end)

-- every element of a list has an octet at least
abbrev pub Full : List Head → Type 0
Full hs = (h : Head) → Memᴰ h hs → h.at < h.end

module _ (test : Head → Bool) (end : ℕ) where
  pub first_none : first_of test end [] ≡ missing end
  unfolding first_of
  first_none = refl

  pub first_among : (hs : List Head) → is_empty (first_of test end hs) ≡ false → Memᴰ (first_of test end hs) hs
  unfolding first_of
  first_among [] e = absurd (false≢true (sym e ∙ missing_empty end))
  first_among (h ∷ hs) e = go (first_among hs) (test h) e
    where
      first : Bool → Head
      first b = cond b h (first_of test end hs)

      go : (is_empty (first false) ≡ false → Memᴰ (first false) hs) → (b : Bool) → is_empty (first b) ≡ false → Memᴰ (first b) (h ∷ hs)
      go ih true e = Memᴰ.head refl
      go ih false e = Memᴰ.tail (ih e)

  pub first_passes : (hs : List Head) → is_empty (first_of test end hs) ≡ false → test (first_of test end hs) ≡ true
  unfolding first_of
  first_passes [] e = absurd (false≢true (sym e ∙ missing_empty end))
  first_passes (h ∷ hs) e = go (first_passes hs) (test h) refl e
    where
      first : Bool → Head
      first b = cond b h (first_of test end hs)

      go : (is_empty (first false) ≡ false → test (first false) ≡ true) → (b : Bool) → test h ≡ b → is_empty (first b) ≡ false → test (first b) ≡ true
      go ih true t e = t
      go ih false t e = ih e

  pub any_full : (hs : List Head) → Full hs → any_of test hs ≡ not (is_empty (first_of test end hs))
  unfolding any_of first_of
  any_full [] f = ap not (sym (missing_empty end))
  any_full (h ∷ hs) f = go (test h) (any_full hs (λ g m. f g (Memᴰ.tail m)))
    where
      go : (b : Bool) → any_of test hs ≡ not (is_empty (first_of test end hs)) → (b || any_of test hs) ≡ not (is_empty (cond b h (first_of test end hs)))
      go true ih = ap not (sym (lt-leb h.end h.at (f h (Memᴰ.head refl))))
      go false ih = ih

  pub first_missing : (hs : List Head) → Full hs → is_empty (first_of test end hs) ≡ true → first_of test end hs ≡ missing end
  unfolding first_of
  first_missing [] f e = refl
  first_missing (h ∷ hs) f e = go (test h) e (first_missing hs (λ g m. f g (Memᴰ.tail m)))
    where
      go : (b : Bool) → is_empty (cond b h (first_of test end hs)) ≡ true → (is_empty (first_of test end hs) ≡ true → first_of test end hs ≡ missing end)
          → cond b h (first_of test end hs) ≡ missing end
      go true e ih = absurd (false≢true (sym (lt-leb h.end h.at (f h (Memᴰ.head refl))) ∙ e))
      go false e ih = ih e

  -- the first list ends at mid
  pub first_join : (gs : List Head) (mid : ℕ) (hs : List Head) → Full gs
      → first_of test end (gs ++ hs) ≡ cond (is_empty (first_of test mid gs)) (first_of test end hs) (first_of test mid gs)
  unfolding first_of
  first_join [] mid hs f = rw (missing_empty mid)
  first_join (h ∷ gs) mid hs f = go (test h) (first_join gs mid hs (λ g m. f g (Memᴰ.tail m)))
    where
      go : (t : Bool) → first_of test end (gs ++ hs) ≡ cond (is_empty (first_of test mid gs)) (first_of test end hs) (first_of test mid gs)
          → cond t h (first_of test end (gs ++ hs)) ≡ cond (is_empty (cond t h (first_of test mid gs))) (first_of test end hs) (cond t h (first_of test mid gs))
      go true ih = rw (lt-leb h.end h.at (f h (Memᴰ.head refl)))
      go false ih = ih

-- ---- of the elements of a stretch

chain_full : {s : List ℕ} {end at : ℕ} {hs : List Head} → Chain s end at hs → Full hs
chain_full done h m = absurd (Memᴰ.not-nil m)
chain_full {s} {end} (next {at = at} {hs = hs} l c) h m =
    ⊎_elim (λ (q : h ≡ head_of s at end). let f = head_forward s at end l in rw (q, head_start s at end) f.0)
    (λ (j : Memᴰ h hs). chain_full c h j) (Memᴰ.cases_cons m)

pub children_full : (s : List ℕ) (at end : ℕ) → Full (children_of s at end)
children_full s at end = go (leb at end) refl
  where
    go : (b : Bool) → leb at end ≡ b → Full (children_of s at end)
    go true e = chain_full (children_chain s at end (leb-true at end e))
    go false e =
        let l = leb-false at end e in
        rw (children_done s at end (omega (arith, l))) (λ h m. absurd (Memᴰ.not-nil m))

pub any_by_first : (test : Head → Bool) (s : List ℕ) (at end : ℕ)
    → any_of test (children_of s at end) ≡ not (is_empty (first_of test end (children_of s at end)))
any_by_first test s at end = any_full test end (children_of s at end) (children_full s at end)
