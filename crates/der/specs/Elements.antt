-- The elements within an element, as the walk meets them.
use Rattle.std.specs.Prelude.{◌≡◌, Bool, false, cond, ◌||◌, ℕ, zero, suc, leb, length}
use mathlib.Core.List.{List, [], ◌∷◌, ◌++◌, Memᴰ}
use Rattle.der.specs.Header.{head_of, children_of}
use Rattle.der.specs.Contents.{constructed}
use Rattle.der.specs.Members.{missing}
use Rattle.der.specs.declared.header.Head.{Head}

-- "In a constructed one, an element holds a list of elements"
abbrev pub held_by : List ℕ → Head → List Head
held_by s h = cond (constructed h.tag) (children_of s h.body h.end) []

-- one of these elements, or one of the list that such an element holds: "each again such an element"
pub data HeldFrom (s : List ℕ) (These : Head → Type 0) : Head → Type 0 where
  outer : {h : Head} → These h → HeldFrom s These h
  held : {holder h : Head} → HeldFrom s These holder → Memᴰ h (held_by s holder) → HeldFrom s These h

-- an element of a side: the outermost one, with which the octets start, and all that it holds
abbrev pub SideElement : List ℕ → Head → Type 0
SideElement s = HeldFrom s (λ (h : Head). h ≡ head_of s 0 (length s))

-- a place is the start of an element of a side
pub record ElementStart (s : List ℕ) (place : ℕ) : Type 0 where
  pub element : Head
  pub is : SideElement s element
  pub start : place ≡ element.at

-- an element as the walk meets it, and the levels that are left for it: one with none left is too deep
pub record Node : Type 0 where
  pub head : Head
  pub levels : ℕ

abbrev pub joined : (Head → List Node) → List Head → List Node
joined f [] = []
joined f (h ∷ hs) = f h ++ joined f hs

-- "Walk by rising start, outer before inner": an element, and then what each member of its list gives
unfoldable pub elements_of : List ℕ → ℕ → Head → List Node
elements_of s zero h = record { head = h; levels = zero } ∷ []
elements_of s (suc levels) h = record { head = h; levels = suc levels } ∷ joined (elements_of s levels) (held_by s h)

-- at least one of the elements passes a test
unfoldable pub any_of : (Head → Bool) → List Head → Bool
any_of test [] = false
any_of test (h ∷ hs) = test h || any_of test hs

-- the first that passes it; where there is none, the missing element at the end of the list
unfoldable pub first_of : (Head → Bool) → ℕ → List Head → Head
first_of test end [] = missing end
first_of test end (h ∷ hs) = cond (test h) h (first_of test end hs)

-- there is none: every element has an octet at least
abbrev pub is_empty : Head → Bool
is_empty h = leb h.end h.at
