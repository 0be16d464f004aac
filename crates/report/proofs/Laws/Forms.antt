-- "Each".
--     each_none, each_next, each_join      "each" over no items, over one and more, over two lists
-- Assumes nothing.
use mathlib.Core.Path.{◌≡◌, refl}
use mathlib.Core.List.{List, [], ◌∷◌, ◌++◌, append_assoc}
use mathlib.Core.Bool.{Bool, true, false}
use Prim.Native.Nat.{ℕ}
use Rattle.report.specs.Entries.{noted}
use Rattle.report.specs.Forms.{filter}
use Rattle.report.specs.Workings.Forms.{each}
use Rattle.der.specs.declared.header.Head.{Head}

module _ (rule : ℕ) (bad : Head → Bool) where
  pub each_none : each rule bad [] ≡ []
  unfolding each filter
  each_none = refl

  pub each_next : (h : Head) (hs : List Head) → each rule bad (h ∷ hs) ≡ noted rule (bad h) h ++ each rule bad hs
  unfolding each filter noted
  each_next h hs = go (bad h) refl
    where
      go : (b : Bool) → bad h ≡ b → each rule bad (h ∷ hs) ≡ noted rule b h ++ each rule bad hs
      go true t = rw t
      go false t = rw t

  pub each_join : (gs hs : List Head) → each rule bad (gs ++ hs) ≡ each rule bad gs ++ each rule bad hs
  each_join [] hs = rw each_none
  each_join (g ∷ gs) hs =
      rw (each_next g (gs ++ hs), each_next g gs, each_join gs hs, append_assoc (noted rule (bad g) g) (each rule bad gs) (each rule bad hs))
