-- The walk over elements within elements, put together from what single elements and lists give.
--     ok_alone                         where nothing is wrong there is one answer
--     then_sound, then_assoc           how answers join
--     soundness_join                   two lists of elements, one behind the other
--     element_deep, element_bad, element_plain, element_list     an element by the tests that are made of it
--     list_begins, list_next, list_done                           the members of a list, one by one
--     stretch_filled, stretch_torn                                the outermost element
--     sound_stretch, sound_self, sound_order, sound_members, sound_next     what it says of each element that nothing is wrong
-- Assumes nothing.
use mathlib.Core.Path.{◌≡◌, refl, sym, ◌∙◌}
use mathlib.Core.List.{List, [], ◌∷◌, ◌++◌, map}
use mathlib.Core.Bool.{Bool, true, false, cond, not, ◌&&◌, ◌||◌}
use Prim.Native.Nat.{ℕ, zero, suc, ◌-◌, ◌≤◌, ◌<◌}
use native.Mathlib.Omega.{arith}
use lib.Dec.{eqb}
use borrow.Author.Tests.{eq-eqb, ne_eqb, eqb-true}
use Rattle.der.specs.Header.{head_of, children_of}
use Rattle.der.specs.Contents.{constructed, element_ok}
use Rattle.der.specs.Order.{octets_le, ascend_from, ascending, octets_of}
use Rattle.der.specs.Elements.{Node, held_by, joined, elements_of}
use Rattle.der.specs.Workings.Walk.{members_of, and_then, in_order, sound_list}
use Rattle.der.specs.Soundness.{faulty, is_set, unordered, FirstPlace, first, judge, Soundness, soundness, stretch_soundness}
use Rattle.der.specs.Soundness.FirstPlace.{nothing, found}
use Rattle.der.specs.declared.header.Head.{Head}
use Rattle.der.specs.declared.walk.Fault.TheVariants.{Unsound, Unordered}
use Rattle.std.specs.Prelude.{Ok, Err, is_ok, is_err}
use Rattle.std.specs.declared.result.Result.{Result}
use Rattle.octets.specs.Octets.{octets_from}
use Rattle.der.proofs.Laws.Header.{head_start, head_narrow}
use Rattle.der.proofs.Laws.Children.{children_done, children_next}

-- ---- answers

-- where nothing is wrong there is one answer
pub ok_alone : {E : Type 0} (v : Result (Unit {0}) E) → is_ok v ≡ true → v ≡ Ok tt
ok_alone (Ok _) e = refl
ok_alone (Err p) e = cc

pub then_sound : (a : Soundness) → and_then a (Ok tt) ≡ a
then_sound (Ok _) = refl
then_sound (Err (Unsound p)) = refl
then_sound (Err (Unordered p)) = refl

pub then_assoc : (a b c : Soundness) → and_then a (and_then b c) ≡ and_then (and_then a b) c
then_assoc (Ok _) b c = refl
then_assoc (Err (Unsound p)) b c = refl
then_assoc (Err (Unordered p)) (Ok _) c = refl
then_assoc (Err (Unordered p)) (Err (Unsound q)) c = refl
then_assoc (Err (Unordered p)) (Err (Unordered q)) (Ok _) = refl
then_assoc (Err (Unordered p)) (Err (Unordered q)) (Err (Unsound r)) = refl
then_assoc (Err (Unordered p)) (Err (Unordered q)) (Err (Unordered r)) = refl

-- ---- lists of elements

or_else : FirstPlace → FirstPlace → FirstPlace
or_else nothing o = o
or_else (found p) o = found p

first_join : (p : Node → Bool) (xs ys : List Node) → first p (xs ++ ys) ≡ or_else (first p xs) (first p ys)
unfolding first or_else
first_join p [] ys = refl
first_join p (x ∷ xs) ys = go (p x) (first_join p xs ys)
  where
    go : (b : Bool) → first p (xs ++ ys) ≡ or_else (first p xs) (first p ys)
        → cond b (found x.head.at) (first p (xs ++ ys)) ≡ or_else (cond b (found x.head.at) (first p xs)) (first p ys)
    go true e = refl
    go false e = e

judge_join : (a b c d : FirstPlace) → judge (or_else a c) (or_else b d) ≡ and_then (judge a b) (judge c d)
unfolding or_else
judge_join (found p) b c d = refl
judge_join nothing nothing c d = refl
judge_join nothing (found q) (found r) d = refl
judge_join nothing (found q) nothing nothing = refl
judge_join nothing (found q) nothing (found r) = refl

pub soundness_join : (s : List ℕ) (xs ys : List Node) → soundness s (xs ++ ys) ≡ and_then (soundness s xs) (soundness s ys)
unfolding soundness
soundness_join s xs ys =
    rw (first_join (faulty s) xs ys, first_join (unordered s) xs ys)
    (judge_join (first (faulty s) xs) (first (unordered s) xs) (first (faulty s) ys) (first (unordered s) ys))

-- ---- one element

pub element_deep : (s : List ℕ) (depth : ℕ) (h : Head) → depth ≡ 0 → soundness s (elements_of s depth h) ≡ Err (Unsound h.at)
unfolding soundness elements_of first
element_deep s depth h e = rw e

-- the element itself, and then what its list gives
opened : (s : List ℕ) (d : ℕ) (h : Head) → (d ≡ 0 → ⊥)
    → soundness s (elements_of s d h) ≡ and_then (soundness s (record { head = h; levels = d } ∷ [])) (soundness s (joined (elements_of s (d - 1)) (held_by s h)))
unfolding elements_of
opened s zero h f = absurd (f refl)
opened s (suc d) h f =
    let e : suc d - 1 ≡ d = omega arith in
    rw e (soundness_join s (record { head = h; levels = suc d } ∷ []) (joined (elements_of s d) (held_by s h)))

alone_bad : (s : List ℕ) (d : ℕ) (h : Head) → (d ≡ 0 → ⊥) → element_ok s h ≡ false → soundness s (record { head = h; levels = d } ∷ []) ≡ Err (Unsound h.at)
unfolding soundness first
alone_bad s d h f e = rw (ne_eqb d 0 f, e)

alone_good : (s : List ℕ) (d : ℕ) (h : Head) → (d ≡ 0 → ⊥) → element_ok s h ≡ true
    → soundness s (record { head = h; levels = d } ∷ []) ≡ in_order (not (is_set h) || ascending (map (octets_of s) (held_by s h))) h.at
unfolding soundness first
alone_good s d h f e = rw (ne_eqb d 0 f, e) (go (is_set h) (ascending (map (octets_of s) (held_by s h))))
  where
    go : (set asc : Bool) → judge nothing (cond (set && not asc) (found h.at) nothing) ≡ in_order (not set || asc) h.at
    go true true = refl
    go true false = refl
    go false asc = refl

-- `good` is whether it is sound by itself, `inner` whether it is constructed
module _ (s : List ℕ) (depth : ℕ) (h : Head) (good : Bool) (f : depth ≡ 0 → ⊥) (g : good ≡ element_ok s h) where
  pub element_bad : good ≡ false → soundness s (elements_of s depth h) ≡ Err (Unsound h.at)
  element_bad e = rw (opened s depth h f, alone_bad s depth h f (sym g ∙ e))

  module _ (inner : Bool) (e : good ≡ true) (i : inner ≡ constructed h.tag) where
    pub element_plain : inner ≡ false → soundness s (elements_of s depth h) ≡ Ok tt
    unfolding soundness first ascend_from
    element_plain k = rw (opened s depth h f, alone_good s depth h f (sym g ∙ e), ← i, k) (go (is_set h))
      where
        go : (set : Bool) → and_then (in_order (not set || true) h.at) (Ok tt) ≡ Ok tt
        go true = refl
        go false = refl

    pub element_list : inner ≡ true → soundness s (elements_of s depth h) ≡ sound_list s (depth - 1) h.at (is_set h) h.body h.end
    element_list k = rw (opened s depth h f, alone_good s depth h f (sym g ∙ e), ← i, k)

-- ---- the members of a list

module _ (s : List ℕ) (depth at : ℕ) (set : Bool) (body end : ℕ) where
  -- The answer of a list of which the members before place i ascend or not, the last of them has the octets x, and together they
  -- gave `so_far`.
  abbrev pub list_from : Bool → Soundness → List ℕ → ℕ → Soundness
  list_from ascends so_far x i =
      and_then (in_order (ascends && (not set || ascend_from x (map (octets_of s) (children_of s i end)))) at)
      (and_then so_far (soundness s (members_of s depth i end)))

  pub list_begins : sound_list s depth at set body end ≡ list_from true (Ok tt) (octets_from s body (body - body)) body
  unfolding octets_from
  list_begins = let z : body - body ≡ 0 = omega arith in rw z

  pub list_done : (ascends : Bool) (so_far : Soundness) (x : List ℕ) (i : ℕ) → end ≤ i → list_from ascends so_far x i ≡ and_then (in_order ascends at) so_far
  unfolding soundness first ascend_from
  list_done ascends so_far x i l = rw (children_done s i end l, then_sound so_far) (go ascends set)
    where
      go : (a b : Bool) → and_then (in_order (a && (not b || true)) at) so_far ≡ and_then (in_order a at) so_far
      go true true = refl
      go true false = refl
      go false b = refl

  -- the next member, what it gives, and whether it may follow the one before it
  pub list_next : (ascends : Bool) (so_far : Soundness) (x : List ℕ) (i : ℕ) (member : Head) (v next : Soundness) (follows : Bool) → i < end
      → member ≡ head_of s i end → v ≡ soundness s (elements_of s depth member) → next ≡ and_then so_far v
      → follows ≡ (not set || octets_le x (octets_from s i (member.end - i)))
      → list_from ascends so_far x i ≡ list_from (ascends && follows) next (octets_from s i (member.end - i)) member.end
  unfolding ascend_from
  list_next ascends so_far x i member v next follows l m e n w =
      let here : member.at ≡ i = rw m (head_start s i end) in
      let later = members_of s depth member.end end in
      rw (
        children_next s i end l,
        ← m,
        soundness_join s (elements_of s depth member) later,
        ← e,
        here,
        split ascends set
            (octets_le x (octets_from s i (member.end - i))) (ascend_from (octets_from s i (member.end - i))
            (map (octets_of s) (children_of s member.end end))),
        ← w,
        n,
        then_assoc so_far v (soundness s later),
      )
    where
      split : (a b p q : Bool) → (a && (not b || p && q)) ≡ ((a && (not b || p)) && (not b || q))
      split true true p q = refl
      split true false p q = refl
      split false b p q = refl

-- ---- the outermost element

-- a walk's answer is the same, whether or not it is asked where nothing is wrong
pub then_if : (a v next : Soundness) (t : Bool) → t ≡ is_err v → t ≡ false → next ≡ a → next ≡ and_then a v
then_if a (Ok _) next t e f g = g ∙ sym (then_sound a)
then_if a (Err (Unsound p)) next t e f g = cc
then_if a (Err (Unordered p)) next t e f g = cc

module _ (s : List ℕ) (at end : ℕ) where
  pub stretch_empty : end ≤ at → stretch_soundness s at end ≡ Err (Unsound at)
  unfolding stretch_soundness elements_of soundness first element_ok
  stretch_empty l = rw (head_narrow s at end (omega arith), eq-eqb end end refl)

  module _ (h : Head) (e : h ≡ head_of s at end) where
    pub stretch_torn : (h.end ≡ end → ⊥) → stretch_soundness s at end ≡ Err (Unsound at)
    unfolding stretch_soundness
    stretch_torn p = cc (ne_eqb h.end end p)

    -- one element that fills the stretch is a list of that element alone
    pub stretch_filled : at < end → h.end ≡ end → stretch_soundness s at end ≡ sound_list s 16 at false at end
    unfolding stretch_soundness soundness first
    stretch_filled l p =
        let done : children_of s h.end end ≡ [] = children_done s h.end end (omega arith) in
        rw (← e, eq-eqb h.end end p, children_next s at end l, ← e, done)
        (sym (soundness_join s (elements_of s 16 h) [] ∙ then_sound (soundness s (elements_of s 16 h))))

-- ---- what it says of the elements that nothing is wrong

pub then_parts : (a b : Soundness) → and_then a b ≡ Ok tt → (a ≡ Ok tt) × (b ≡ Ok tt)
then_parts (Ok _) b e = (refl, e)
then_parts (Err (Unsound p)) b e = (e, cc)
then_parts (Err (Unordered p)) (Ok _) e = (e, refl)
then_parts (Err (Unordered p)) (Err (Unsound q)) e = (cc, e)
then_parts (Err (Unordered p)) (Err (Unordered q)) e = (e, cc)

pub sound_stretch : (s : List ℕ) (at end : ℕ) → stretch_soundness s at end ≡ Ok tt
    → ((head_of s at end).end ≡ end) × (soundness s (elements_of s 16 (head_of s at end)) ≡ Ok tt)
unfolding stretch_soundness
sound_stretch s at end e = go (eqb (head_of s at end).end end) refl e
  where
    go : (b : Bool) → eqb (head_of s at end).end end ≡ b → cond b (soundness s (elements_of s 16 (head_of s at end))) (Err (Unsound at)) ≡ Ok tt
        → ((head_of s at end).end ≡ end) × (soundness s (elements_of s 16 (head_of s at end)) ≡ Ok tt)
    go true f g = (eqb-true (head_of s at end).end end f, g)
    go false f g = (cc, cc)

module _ (s : List ℕ) (levels : ℕ) (h : Head) (e : soundness s (elements_of s levels h) ≡ Ok tt) where
  pub sound_depth : levels ≡ 0 → ⊥
  sound_depth z = let n : ◌≡◌ {A = ℕ} 0 1 = cc (element_deep s levels h z) in omega arith

  pub sound_self : element_ok s h ≡ true
  sound_self = go (element_ok s h) refl
    where
      go : (b : Bool) → element_ok s h ≡ b → b ≡ true
      go true f = refl
      go false f = cc (element_bad s levels h (element_ok s h) sound_depth refl f)

  module _ (c : constructed h.tag ≡ true) where
    parts : (in_order (not (is_set h) || ascending (map (octets_of s) (children_of s h.body h.end))) h.at ≡ Ok tt) ×
        (soundness s (members_of s (levels - 1) h.body h.end) ≡ Ok tt)
    parts = then_parts _ _ (sym (element_list s levels h (element_ok s h) sound_depth refl (constructed h.tag) sound_self refl c) ∙ e)

    pub sound_order : (not (is_set h) || ascending (map (octets_of s) (children_of s h.body h.end))) ≡ true
    sound_order = go (not (is_set h) || ascending (map (octets_of s) (children_of s h.body h.end))) parts.0
      where
        go : (b : Bool) → in_order b h.at ≡ Ok tt → b ≡ true
        go true f = refl
        go false f = cc

    pub sound_members : soundness s (members_of s (levels - 1) h.body h.end) ≡ Ok tt
    sound_members = parts.1

pub sound_next : (s : List ℕ) (levels at end : ℕ) → at < end → soundness s (members_of s levels at end) ≡ Ok tt
    → (soundness s (elements_of s levels (head_of s at end)) ≡ Ok tt) × (soundness s (members_of s levels (head_of s at end).end end) ≡ Ok tt)
sound_next s levels at end l e =
    then_parts _ _ (sym (soundness_join s (elements_of s levels (head_of s at end)) (members_of s levels (head_of s at end).end end)) ∙ rw
    (children_next s at end l) at e)
