-- A SET of attributes, by what is read of it.
--     crowded_law       it has over one member if its first one ends before it does
-- Assumes nothing.
use mathlib.Core.Path.{◌≡◌, refl, sym}
use mathlib.Core.Bool.{Bool, true, false, ◌&&◌}
use mathlib.Core.List.{List, ◌∷◌}
use Prim.Native.Nat.{ℕ}
use lib.Dec.{ltb}
use borrow.Author.Tests.{ltb-true, ltb-false}
use Rattle.subjects.specs.Sets.{several, is_crowded}
use Rattle.der.specs.Header.{head_of, children_of}
use Rattle.der.specs.declared.header.Head.{Head}
use Rattle.der.proofs.Laws.Children.{children_done, children_next}

-- behind the first
some_left : (s : List ℕ) (h : Head) (at end : ℕ) (b : Bool) → ltb at end ≡ b → several (h ∷ children_of s at end) ≡ b
some_left s h at end true t = rw (children_next s at end (ltb-true at end t))
some_left s h at end false t = rw (children_done s at end (ltb-false at end t))

over_one : (s : List ℕ) (at end : ℕ) (b : Bool) → ltb at end ≡ b → (b && ltb (head_of s at end).end end) ≡ several (children_of s at end)
over_one s at end true t =
    rw (children_next s at end (ltb-true at end t))
    (sym (some_left s (head_of s at end) (head_of s at end).end end (ltb (head_of s at end).end end) refl))
over_one s at end false t = rw (children_done s at end (ltb-false at end t))

pub crowded_law : (s : List ℕ) (h first : Head) → first ≡ head_of s h.body h.end
    → (ltb h.body h.end && ltb first.end h.end) ≡ is_crowded s h
unfolding is_crowded
crowded_law s h first f = rw f (over_one s h.body h.end (ltb h.body h.end) refl)
