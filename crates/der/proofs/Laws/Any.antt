-- At least one of the elements of a list.
--     any_join                   of two lists, one behind the other
--     any_same, any_follows      tests that agree; a test that another follows from
-- Assumes nothing.
use mathlib.Core.Path.{◌≡◌, refl, ap, ◌∙◌}
use mathlib.Core.List.{List, [], ◌∷◌, ◌++◌}
use mathlib.Core.Bool.{Bool, true, false, ◌||◌}
use Rattle.der.specs.Elements.{any_of}
use Rattle.der.specs.declared.header.Head.{Head}

module _ (test : Head → Bool) where
  pub any_join : (gs hs : List Head) → any_of test (gs ++ hs) ≡ (any_of test gs || any_of test hs)
  unfolding any_of
  any_join [] hs = refl
  any_join (g ∷ gs) hs = go (test g) (any_join gs hs)
    where
      go : (b : Bool) → any_of test (gs ++ hs) ≡ (any_of test gs || any_of test hs) → (b || any_of test (gs ++ hs)) ≡ ((b || any_of test gs) || any_of test hs)
      go true ih = refl
      go false ih = ih

module _ (p q : Head → Bool) where
  pub any_same : ((h : Head) → p h ≡ q h) → (hs : List Head) → any_of p hs ≡ any_of q hs
  unfolding any_of
  any_same f [] = refl
  any_same f (h ∷ hs) = rw (f h, any_same f hs)

  pub any_follows : ((h : Head) → p h ≡ true → q h ≡ true) → (hs : List Head) → any_of p hs ≡ true → any_of q hs ≡ true
  unfolding any_of
  any_follows f [] e = e
  any_follows f (h ∷ hs) e = go (p h) refl e (any_follows f hs)
    where
      or-true : (b : Bool) → (b || true) ≡ true
      or-true true = refl
      or-true false = refl

      go : (b : Bool) → p h ≡ b → (b || any_of p hs) ≡ true → (any_of p hs ≡ true → any_of q hs ≡ true) → (q h || any_of q hs) ≡ true
      go true t e ih = rw (f h t)
      go false t e ih = ap (λ (x : Bool). q h || x) (ih e) ∙ or-true (q h)
