-- The elements of a side, and where a fault is.
--     held_members        the members of a constructed element are held with it
--     outermost_start     place 0 is the start of an element
--     start_inside        the start of an element of a side lies within the side
--     fault_start         the place of refusals 4 and 5 is the start of an element of its side
-- Assumes nothing.
use mathlib.Core.Path.{◌≡◌, refl, sym, subst}
use mathlib.Core.List.Memᴰ
use mathlib.Core.List.{List, [], ◌∷◌, ◌++◌, Memᴰ}
use mathlib.Core.Logic.{⊎_elim}
use mathlib.Core.Bool.{Bool, true, false, cond}
use Prim.Native.Nat.{ℕ, zero, suc, ◌≤◌, ◌<◌}
use native.Mathlib.Nat.{le_trans, lt_of_lt_of_le, le_refl}
use lib.Dec.{eqb}
use lib.ListN.{length}
use Rattle.der.specs.Header.{head_of}
use Rattle.der.specs.Contents.{constructed}
use Rattle.der.specs.Elements.{held_by, HeldFrom, SideElement, ElementStart, Node, joined, elements_of}
use Rattle.der.specs.Elements.HeldFrom.{outer, held}
use Rattle.der.specs.Members.{members_in}
use Rattle.der.specs.Soundness.{faulty, unordered, FirstPlace, first, judge, soundness, stretch_soundness, der_soundness, soundness_place}
use Rattle.der.specs.Soundness.FirstPlace.{nothing, found}
use Rattle.der.specs.declared.header.Head.{Head}
use Rattle.der.proofs.Terms.Walking.{Chain}
use Rattle.der.proofs.Terms.Walking.Chain.{done, next}
use Rattle.der.specs.declared.walk.Fault.TheVariants.{Unsound}
use Rattle.std.specs.Prelude.{Err}
use Rattle.der.proofs.Laws.Header.{head_start, head_forward, head_body}
use Rattle.der.proofs.Laws.Walking.{children_chain}

pub held_members : {s : List ℕ} {These : Head → Type 0} (holder : Head) → constructed holder.tag ≡ true → HeldFrom s These holder
    → (h : Head) → Memᴰ h (members_in s holder) → HeldFrom s These h
held_members holder c k h i = held {holder = holder} {h = h} k (rw c i)

module _ (s : List ℕ) where
  pub outermost_start : ElementStart s 0
  outermost_start = record { element = head_of s 0 (length s); is = outer refl; start = sym (head_start s 0 (length s)) }

  -- ---- within the side

  -- an element that starts before the octets end, and ends no later
  record Inside (h : Head) : Type 0 where
    starts : h.at < length s
    forward : h.body ≤ h.end
    ends : h.end ≤ length s

  head_lies : (at end : ℕ) → at < end → end ≤ length s → Inside (head_of s at end)
  head_lies at end l e =
      record {
        starts = rw (head_start s at end) (lt_of_lt_of_le l e);
        forward = (head_body s at end l).1;
        ends = le_trans (head_forward s at end l).1 e;
      }

  chain_lies : {end at : ℕ} {hs : List Head} → end ≤ length s → Chain s end at hs → (h : Head) → Memᴰ h hs → Inside h
  chain_lies e done h i = absurd (Memᴰ.not-nil i)
  chain_lies {end = end} {at = at} e (next l r) h i =
      ⊎_elim (λ (q : h ≡ head_of s at end). subst Inside (sym q) (head_lies at end l e)) (λ i. chain_lies e r h i) (Memᴰ.cases_cons i)

  held_lies : (holder h : Head) → Inside holder → Memᴰ h (held_by s holder) → Inside h
  held_lies holder h k = go (constructed holder.tag)
    where
      go : (b : Bool) → Memᴰ h (cond b (members_in s holder) []) → Inside h
      go true i = chain_lies k.ends (children_chain s holder.body holder.end k.forward) h i
      go false i = absurd (Memᴰ.not-nil i)

  element_lies : 0 < length s → {h : Head} → SideElement s h → Inside h
  element_lies l (outer e) = subst Inside (sym e) (head_lies 0 (length s) l (le_refl (length s)))
  element_lies l (held {holder = holder} {h = h} k i) = held_lies holder h (element_lies l k) i

  pub start_inside : 0 < length s → {place : ℕ} → ElementStart s place → place < length s
  start_inside l k = rw k.start (element_lies l k.is).starts

  -- ---- the elements that a walk meets

  abbrev AllFrom : List Node → Type 0
  AllFrom [] = Unit {0}
  AllFrom (n ∷ ns) = SideElement s n.head × AllFrom ns

  from_join : (ms ns : List Node) → AllFrom ms → AllFrom ns → AllFrom (ms ++ ns)
  from_join [] ns k l = l
  from_join (m ∷ ms) ns k l = (k.0, from_join ms ns k.1 l)

  module _ (levels : ℕ) (each : (h : Head) → SideElement s h → AllFrom (elements_of s levels h)) where
    joined_from : (hs : List Head) → ((h : Head) → Memᴰ h hs → SideElement s h) → AllFrom (joined (elements_of s levels) hs)
    joined_from [] k = tt
    joined_from (h ∷ hs) k =
        from_join (elements_of s levels h) (joined (elements_of s levels) hs) (each h (k h (Memᴰ.head refl)))
        (joined_from hs (λ x i. k x (Memᴰ.tail i)))

  elements_from : (levels : ℕ) (h : Head) → SideElement s h → AllFrom (elements_of s levels h)
  unfolding elements_of
  elements_from zero h k = (k, tt)
  elements_from (suc levels) h k = (k, joined_from levels (elements_from levels) (held_by s h) (λ x i. held k i))

  -- ---- the first of them that a test picks

  abbrev StartFound : FirstPlace → Type 0
  StartFound nothing = Unit {0}
  StartFound (found p) = ElementStart s p

  first_start : (test : Node → Bool) (ns : List Node) → AllFrom ns → StartFound (first test ns)
  unfolding first
  first_start test [] k = tt
  first_start test (n ∷ ns) k = go (test n) (first_start test ns k.1)
    where
      go : (b : Bool) → StartFound (first test ns) → StartFound (cond b (found n.head.at) (first test ns))
      go true f = record { element = n.head; is = k.0; start = refl }
      go false f = f

  judge_start : (fault set : FirstPlace) → StartFound fault → StartFound set → ElementStart s (soundness_place (judge fault set))
  judge_start (found p) set f g = f
  judge_start nothing (found p) f g = g
  judge_start nothing nothing f g = outermost_start

  soundness_start : (ns : List Node) → AllFrom ns → ElementStart s (soundness_place (soundness s ns))
  unfolding soundness
  soundness_start ns k =
      judge_start (first (faulty s) ns) (first (unordered s) ns) (first_start (faulty s) ns k) (first_start (unordered s) ns k)

  -- where the outermost element does not fill the octets the place is its own start
  pub fault_start : ElementStart s (soundness_place (der_soundness s))
  unfolding stretch_soundness
  fault_start = go (eqb (head_of s 0 (length s)).end (length s))
    where
      go : (b : Bool) → ElementStart s (soundness_place (cond b (soundness s (elements_of s 16 (head_of s 0 (length s)))) (Err (Unsound 0))))
      go true = soundness_start (elements_of s 16 (head_of s 0 (length s))) (elements_from 16 (head_of s 0 (length s)) (outer refl))
      go false = outermost_start
