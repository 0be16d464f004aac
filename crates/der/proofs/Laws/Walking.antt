-- Walking forward.
--     children_chain      the members of a list, one behind the other, from its start to its end
--     elements_rise       in an element and all that it holds the starts rise strictly, and none leaves the element
--     members_rise        the same of the members of a list and all that they hold
--     rises_join          two rows of rising numbers, one behind the other
-- Assumes nothing.
use mathlib.Core.Path.{◌≡◌, refl, subst}
use mathlib.Core.List.{List, [], ◌++◌, map, map-append}
use mathlib.Core.Bool.{Bool, true, false, cond}
use Prim.Native.Nat.{ℕ, zero, suc, ◌+◌, ◌-◌, ◌≤◌, ◌<◌}
use native.Mathlib.Nat.{le_trans, lt_of_lt_of_le, le_refl}
use native.Mathlib.Omega.{arith}
use lib.Dec.{ltb}
use borrow.Author.Tests.{ltb-true, ltb-false}
use Rattle.der.specs.Header.{head_of, children_of}
use Rattle.der.specs.Contents.{constructed}
use Rattle.der.specs.Elements.{joined, elements_of}
use Rattle.der.specs.Workings.Walk.{members_of}
use Rattle.der.proofs.Terms.Walking.{Chain, Rising, start_of}
use Rattle.der.proofs.Terms.Walking.Chain.{done, next}
use Rattle.der.proofs.Terms.Walking.Rising.{none, more}
use Rattle.der.specs.declared.header.Head.{Head}
use Rattle.der.proofs.Laws.Header.{head_start, head_forward, head_inside, head_constructed}
use Rattle.der.proofs.Laws.Children.{children_done, children_next}

-- ---- the members of a list

chain_end : (s : List ℕ) (at end : ℕ) → end ≡ at → Chain s end at (children_of s at end)
chain_end s at end e = rw (children_done s at end (omega arith)) (subst (λ (k : ℕ). Chain s end k []) e done)

chain_by : (s : List ℕ) (fuel at end : ℕ) → end - at ≤ fuel → at ≤ end → Chain s end at (children_of s at end)
chain_by s zero at end f l = chain_end s at end (omega arith)
chain_by s (suc fuel) at end f l = go (chain_by s fuel (head_of s at end).end end) (ltb at end) refl
  where
    go : (end - (head_of s at end).end ≤ fuel → (head_of s at end).end ≤ end → Chain s end (head_of s at end).end (children_of s (head_of s at end).end end))
        → (b : Bool) → ltb at end ≡ b → Chain s end at (children_of s at end)
    go ih true e =
        let h = ltb-true at end e in
        let k = head_forward s at end h in
        rw (children_next s at end h) (next h (ih (omega arith) k.1))
    go ih false e = let h = ltb-false at end e in chain_end s at end (omega arith)

pub children_chain : (s : List ℕ) (at end : ℕ) → at ≤ end → Chain s end at (children_of s at end)
children_chain s at end l = chain_by s (end - at) at end (le_refl (end - at)) l

-- ---- rising numbers

rises_le : {from to : ℕ} {xs : List ℕ} → Rising from to xs → from ≤ to
rises_le (none l) = l
rises_le (more l h r) = let k = rises_le r in omega arith

rises_lower : {from less to : ℕ} {xs : List ℕ} → less ≤ from → Rising from to xs → Rising less to xs
rises_lower l (none k) = none (le_trans l k)
rises_lower l (more k h r) = more (le_trans l k) h r

pub rises_join : {from mid to : ℕ} {xs ys : List ℕ} → Rising from mid xs → Rising mid to ys → Rising from to (xs ++ ys)
rises_join (none l) r = rises_lower l r
rises_join (more l h q) r = let k = rises_le r in more l (lt_of_lt_of_le h k) (rises_join q r)

-- ---- an element and all that it holds

module _ (s : List ℕ) (levels end : ℕ)
    (each : (at : ℕ) → at < end → Rising at (head_of s at end).end (map start_of (elements_of s levels (head_of s at end)))) where
  joined_rise : {at : ℕ} {hs : List Head} → Chain s end at hs → Rising at end (map start_of (joined (elements_of s levels) hs))
  joined_rise done = none (le_refl end)
  joined_rise (next {at = at} {hs = hs} l r) =
      rw (map-append start_of (elements_of s levels (head_of s at end)) (joined (elements_of s levels) hs))
      (rises_join (each at l) (joined_rise r))

pub elements_rise : (s : List ℕ) (levels at end : ℕ) → at < end → Rising at (head_of s at end).end (map start_of (elements_of s levels (head_of s at end)))
unfolding elements_of
elements_rise s zero at end l = let f = head_forward s at end l in rw (head_start s at end) (more (le_refl at) f.0 (none f.0))
elements_rise s (suc levels) at end l =
    let f = head_forward s at end l in
    rw (head_start s at end) (more (le_refl at) f.0 (go (elements_rise s levels) (constructed (head_of s at end).tag) refl f.0))
  where
    later : (m n : ℕ) → m + 2 ≤ n → suc m ≤ n
    later m n k = omega arith

    go : ((i to : ℕ) → i < to → Rising i (head_of s i to).end (map start_of (elements_of s levels (head_of s i to)))) → (b : Bool)
        → constructed (head_of s at end).tag ≡ b → at < (head_of s at end).end
        → Rising (suc at) (head_of s at end).end (map start_of (joined (elements_of s levels)
        (cond b (children_of s (head_of s at end).body (head_of s at end).end) [])))
    go ih true e f =
        let inside = head_inside s at end (head_constructed s at end e) in
        rises_lower (later at (head_of s at end).body inside.0) (joined_rise s levels (head_of s at end).end
        (λ i. ih i (head_of s at end).end) (children_chain s (head_of s at end).body (head_of s at end).end inside.1))
    go ih false e f = none f

pub members_rise : (s : List ℕ) (levels at end : ℕ) → at ≤ end → Rising at end (map start_of (members_of s levels at end))
members_rise s levels at end l = joined_rise s levels end (λ i. elements_rise s levels i end) (children_chain s at end l)
