-- A walk along the elements of a stretch, in a chain.
--     walked                 it yields those that it has not come to yet
--     any_is, find_is        `any` and `find` answer what the definitions say
--     found                  what `find` gives, or else the missing element
-- Assumes nothing.
use mathlib.Core.Path.{◌≡◌, refl, sym, ap, ◌∙◌}
use mathlib.Core.List.{List, [], ◌∷◌}
use mathlib.Core.Bool.{Bool, true, false, cond, ◌||◌}
use Prim.Native.Nat.{ℕ}
use Rattle.std.specs.Prelude.{Option, Some}
use Rattle.std.specs.Option.{option_map, unwrap_or}
use Rattle.std.specs.List.{list_any, find}
use Rattle.std.specs.Iterator.{YieldsFirst}
use Rattle.std.proofs.lemmas.Iterator.{YieldsList}
use Rattle.std.proofs.lemmas.Iterator.Adapters.{option_map_id}
use Rattle.std.proofs.lemmas.Iterator.Consumers.{YieldsList-from_first}
use Rattle.der.specs.Members.{missing}
use Rattle.der.specs.Children.{children_left}
use Rattle.der.specs.Elements.{any_of, first_of}
use Rattle.der.specs.declared.header.Head.{Head}
use Rattle.der.specs.declared.children.Children.{Children}

pub walked : (walk : Children) {hs : List Head} → children_left walk ≡ hs → YieldsList (YieldsFirst children_left) (λ h. h) walk hs
walked walk {hs} e = YieldsList-from_first (λ h. h) children_left hs e

module _ (test : Head → Bool) where
  pub any_is : (hs : List Head) → list_any test hs ≡ any_of test hs
  unfolding any_of
  any_is [] = refl
  any_is (h ∷ hs) = ap (λ (b : Bool). test h || b) (any_is hs)

  pub find_is : (end : ℕ) (hs : List Head) → unwrap_or (find test hs) (missing end) ≡ first_of test end hs
  unfolding first_of
  find_is end [] = refl
  find_is end (h ∷ hs) = go (test h) (find_is end hs)
    where
      go : (b : Bool) → unwrap_or (find test hs) (missing end) ≡ first_of test end hs
          → unwrap_or (cond b (Some h) (find test hs)) (missing end) ≡ cond b h (first_of test end hs)
      go true ih = refl
      go false ih = ih

  -- what is found, or else the missing element
  pub found : (end : ℕ) (hs : List Head) (r : Option Head) → option_map (λ h. h) r ≡ find test hs → unwrap_or r (missing end) ≡ first_of test end hs
  found end hs r e = ap (λ (o : Option Head). unwrap_or o (missing end)) (sym (option_map_id r) ∙ e) ∙ find_is end hs
