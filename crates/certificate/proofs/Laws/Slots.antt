-- A list that has an entry for each slot.
--     numbers_at                              a list that has an entry for each of some numbers
--     by_slot_long, by_slot_at                its length, and the entry of a slot
--     by_slot_set, by_slot_none, by_slot_same  one entry changed; all the same; two lists that agree
--     filled_none, filled_next, filled_all     entries filled in slot by slot
--     seen_none, seen_next, seen_all           the first extensions, and whether an identifier repeats, one extension after the other
-- Assumes nothing.
use mathlib.Core.Path.{◌≡◌, refl, sym, ap, subst, ◌∙◌}
use mathlib.Core.List.Memᴰ
use mathlib.Core.List.{List, [], ◌∷◌, ◌++◌, map, append-nil, append_assoc, Memᴰ}
use mathlib.Core.Bool.{Bool, true, false, cond, not, ◌&&◌, ◌||◌}
use Prim.Native.Nat.{ℕ, zero, suc, ◌+◌, ◌≤◌, ◌<◌}
use native.Mathlib.Nat.{zero-add, add-zero}
use native.Mathlib.Omega.{arith}
use lib.ListN.{length, get_or, set, replicate, length-map, length-set, length-replicate, get_or-replicate}
use lib.Seq.{get_or-set_same, get_or-set_other, ext_get_or}
use lib.Dec.{ltb, eqb}
use borrow.Author.Tests.{eqb-true, eqb-false, eq-eqb, ne_eqb, lt-ltb, le-ltb, ltb-true, ltb-false}
use Rattle.certificate.specs.Extensions.{slot_of, seen_before}
use Rattle.certificate.specs.Slots.{numbers_from, slot_count, by_slot, first_in_slot, has_repeats}
use Rattle.certificate.specs.Workings.Slots.{firsts_of}
use Rattle.certificate.specs.declared.slots.Firsts.{Firsts}
use Rattle.der.specs.Header.{children_of}
use Rattle.der.specs.Members.{missing, members_in}
use Rattle.der.specs.Elements.{any_of, first_of, is_empty}
use Rattle.der.specs.declared.header.Head.{Head}
use Rattle.der.proofs.Laws.Any.{any_join}
use Rattle.der.proofs.Laws.Searching.{Full, children_full, first_none, first_missing, first_join}
use Rattle.certificate.proofs.Laws.Extensions.{slot_below, repeat_is}

-- ---- a list by slots

numbers_long : (k n : ℕ) → length (numbers_from k n) ≡ n
unfolding numbers_from
numbers_long k zero = refl
numbers_long k (suc n) = ap suc (numbers_long (k + 1) n)

module _ {A : Type 0} where
  pub numbers_at : (f : ℕ → A) (d : A) (k n i : ℕ) → i < n → get_or (map f (numbers_from k n)) i d ≡ f (k + i)
  unfolding numbers_from
  numbers_at f d k zero i h = absurd (omega arith)
  numbers_at f d k (suc n) zero h = ap f (sym (add-zero k))
  numbers_at f d k (suc n) (suc i) h =
      let e : k + 1 + i ≡ k + suc i = omega arith in
      numbers_at f d (k + 1) n i (omega arith) ∙ ap f e

  pub by_slot_at : (f : ℕ → A) (d : A) (slot : ℕ) → slot < slot_count → get_or (by_slot f) slot d ≡ f slot
  by_slot_at f d slot h = numbers_at f d 0 slot_count slot h ∙ ap f (zero-add slot)

  pub by_slot_long : (f : ℕ → A) → length (by_slot f) ≡ slot_count
  by_slot_long f = length-map (numbers_from 0 slot_count) f ∙ numbers_long 0 slot_count

  by_slot_is : (f : ℕ → A) (d : A) (xs : List A) → length xs ≡ slot_count → ((slot : ℕ) → slot < slot_count → get_or xs slot d ≡ f slot) → xs ≡ by_slot f
  by_slot_is f d xs l each =
      ext_get_or d xs (by_slot f) (l ∙ sym (by_slot_long f))
      (λ i h. let below : i < slot_count = omega (arith, l) in each i below ∙ sym (by_slot_at f d i below))

  pub by_slot_none : (d : A) → replicate slot_count d ≡ by_slot (λ (slot : ℕ). d)
  by_slot_none d = by_slot_is (λ (slot : ℕ). d) d (replicate slot_count d) (length-replicate {A = A} slot_count d) (λ slot h. get_or-replicate slot_count slot d d h)

  pub by_slot_same : (d : A) (f g : ℕ → A) → ((slot : ℕ) → slot < slot_count → f slot ≡ g slot) → by_slot f ≡ by_slot g
  by_slot_same d f g e = by_slot_is g d (by_slot f) (by_slot_long f) (λ slot h. by_slot_at f d slot h ∙ e slot h)

  -- the entry of slot k becomes r
  pub by_slot_set : (d : A) (f g : ℕ → A) (xs : List A) (k : ℕ) (r : A) → xs ≡ by_slot f → k < slot_count → r ≡ g k
      → ((slot : ℕ) → (slot ≡ k → ⊥) → f slot ≡ g slot) → set xs k r ≡ by_slot g
  by_slot_set d f g xs k r is l here other =
      by_slot_is g d (set xs k r) (length-set xs k r ∙ long) (λ slot b. go slot b (eqb slot k) refl)
    where
      long : length xs ≡ slot_count
      long = ap length is ∙ by_slot_long f

      go : (slot : ℕ) → slot < slot_count → (t : Bool) → eqb slot k ≡ t → get_or (set xs k r) slot d ≡ g slot
      go slot b true e =
          let q = eqb-true slot k e in
          ap (λ (n : ℕ). get_or (set xs k r) n d) q ∙ (get_or-set_same xs k r d (omega (arith, long)) ∙ (here ∙ ap g (sym q)))
      go slot b false e =
          let n = eqb-false slot k e in
          get_or-set_other xs k slot r d n ∙ (ap (λ (l : List A). get_or l slot d) is ∙ (by_slot_at f d slot b ∙ other slot n))

  -- ---- slot after slot

  -- the slots below k have their entries, and the others d
  abbrev pub below : (ℕ → A) → A → ℕ → ℕ → A
  below f d k slot = cond (ltb slot k) (f slot) d

  pub filled_none : (f : ℕ → A) (d : A) → replicate slot_count d ≡ by_slot (below f d 0)
  filled_none f d = by_slot_none d ∙ by_slot_same d _ _ (λ slot h. sym (ap (λ (b : Bool). cond b (f slot) d) (le-ltb slot 0 (omega arith))))

  pub filled_next : (f : ℕ → A) (d : A) (xs : List A) (k : ℕ) (r : A) → k < slot_count → r ≡ f k → xs ≡ by_slot (below f d k)
      → set xs k r ≡ by_slot (below f d (k + 1))
  filled_next f d xs k r l e is =
      by_slot_set d (below f d k) (below f d (k + 1)) xs k r is l
      (e ∙ sym (ap (λ (b : Bool). cond b (f k) d) (lt-ltb k (k + 1) (omega arith)))) (λ slot n. ap (λ (b : Bool). cond b (f slot) d) (same slot n))
    where
      same : (slot : ℕ) → (slot ≡ k → ⊥) → ltb slot k ≡ ltb slot (k + 1)
      same slot n = go (ltb slot k) refl
        where
          go : (b : Bool) → ltb slot k ≡ b → b ≡ ltb slot (k + 1)
          go true t = let m = ltb-true slot k t in sym (lt-ltb slot (k + 1) (omega (arith, m)))
          go false t = let m = ltb-false slot k t in sym (le-ltb slot (k + 1) (omega (arith, m, n)))

  pub filled_all : (f : ℕ → A) (d : A) (xs : List A) (k : ℕ) → slot_count ≤ k → xs ≡ by_slot (below f d k) → xs ≡ by_slot f
  filled_all f d xs k l is = is ∙ by_slot_same d (below f d k) f (λ slot h. ap (λ (b : Bool). cond b (f slot) d) (lt-ltb slot k (omega (arith, l, h))))

-- ---- extension after extension

-- what stands for an entry past a list's end
abbrev pub unread : Head
unread = record { at = 0; tag = 0; body = 0; end = 0; sound = false }

-- of the elements from place from to end those before the ones that are left, the first of them in each slot, and whether one of them repeats
-- an identifier
pub record Seen (s : List ℕ) (from end : ℕ) (left : List Head) (firsts : List Head) (repeated : Bool) : Type 0 where
  pub past : List Head
  pub all : children_of s from end ≡ past ++ left
  pub each : firsts ≡ by_slot (first_in_slot s end past)
  pub any : repeated ≡ any_of (seen_before s from) past

none_in : (s : List ℕ) (end : ℕ) (slot : ℕ) → missing end ≡ first_in_slot s end [] slot
unfolding first_in_slot
none_in s end slot = sym (first_none (λ (h : Head). eqb (slot_of s h) slot) end)

pub seen_none : (s : List ℕ) (from end : ℕ) (none : Head) → none ≡ missing end → {left : List Head} → left ≡ children_of s from end
    → Seen s from end left (replicate slot_count none) false
unfolding any_of
seen_none s from end none e l =
    record {
      past = [];
      all = sym l;
      each = by_slot_none none ∙ by_slot_same none _ _ (λ slot h. e ∙ none_in s end slot);
      any = refl;
    }

module _ (s : List ℕ) (end : ℕ) (past : List Head) (e : Head) (full : Full past) where
  abbrev before : ℕ → Head
  before = first_in_slot s end past

  -- one more extension
  added : (slot : ℕ) → first_in_slot s end (past ++ (e ∷ [])) slot ≡ cond (is_empty (before slot)) (cond (eqb (slot_of s e) slot) e (missing end)) (before slot)
  unfolding first_in_slot first_of
  added slot = first_join (λ (h : Head). eqb (slot_of s h) slot) end past end (e ∷ []) full

  added_here : first_in_slot s end (past ++ (e ∷ [])) (slot_of s e) ≡ cond (is_empty (before (slot_of s e))) e (before (slot_of s e))
  added_here =
      added (slot_of s e) ∙ ap (λ (b : Bool). cond (is_empty (before (slot_of s e))) (cond b e (missing end)) (before (slot_of s e)))
      (eq-eqb (slot_of s e) (slot_of s e) refl)

  none_before : (slot : ℕ) → is_empty (before slot) ≡ true → before slot ≡ missing end
  unfolding first_in_slot
  none_before slot t = first_missing (λ (h : Head). eqb (slot_of s h) slot) end past full t

  added_other : (slot : ℕ) → (slot ≡ slot_of s e → ⊥) → before slot ≡ first_in_slot s end (past ++ (e ∷ [])) slot
  added_other slot n = sym (added slot ∙ (rw (ne_eqb (slot_of s e) slot (λ q. n (sym q))) (go (is_empty (before slot)) refl)))
    where
      go : (b : Bool) → is_empty (before slot) ≡ b → cond b (missing end) (before slot) ≡ before slot
      go true t = sym (none_before slot t)
      go false t = refl

-- e is the first extension that is left, k its slot and first the first before it there, again whether it repeats, and r what its slot then has
module _ (s : List ℕ) (from end : ℕ) (left rest firsts : List Head) (repeated : Bool) (seen : Seen s from end left firsts repeated)
    (e first r d : Head) (k : ℕ) (again : Bool) (is : left ≡ e ∷ rest) (slot_is : k ≡ slot_of s e)
    (first_is_lem : first ≡ get_or firsts k d) (r_is : r ≡ cond (is_empty first) e first)
    (again_is : again ≡ (not (is_empty first) && (not (eqb k 0) || seen_before s from e))) where
  abbrev past : List Head
  past = seen.past

  all : children_of s from end ≡ past ++ (e ∷ rest)
  all = seen.all ∙ ap (λ (l : List Head). past ++ l) is

  full : Full past
  full g m = children_full s from end g (subst (Memᴰ g) (sym all) (Memᴰ.append_left (e ∷ rest) m))

  low : k < slot_count
  low = rw slot_is (slot_below _)

  here : first ≡ first_in_slot s end past (slot_of s e)
  here =
      first_is_lem ∙ (ap (λ (l : List Head). get_or l k d) seen.each ∙
      (by_slot_at (first_in_slot s end past) d k low ∙ ap (first_in_slot s end past) slot_is))

  again_seen : again ≡ seen_before s from e
  again_seen = again_is ∙ (rw (slot_is, here) (repeat_is s from end e past rest all))

  or-false : (b : Bool) → (b || false) ≡ b
  or-false true = refl
  or-false false = refl

  last : any_of (seen_before s from) (e ∷ []) ≡ seen_before s from e
  unfolding any_of
  last = or-false (seen_before s from e)

  pub seen_next : Seen s from end rest (set firsts k r) (repeated || again)
  seen_next =
      record {
        past = past ++ (e ∷ []);
        all = all ∙ sym (append_assoc past (e ∷ []) rest);
        each =
            by_slot_set e (first_in_slot s end past) (first_in_slot s end (past ++ (e ∷ []))) firsts k r seen.each low
            (r_is ∙ (rw (slot_is, here) (sym (added_here s end past e full))))
            (λ slot n. added_other s end past e full slot (λ q. n (q ∙ sym slot_is)));
        any = (λ j. seen.any j || (again_seen ∙ sym last) j) ∙ sym (any_join (seen_before s from) past (e ∷ []));
      }

pub seen_all : (s : List ℕ) (list : Head) (left firsts : List Head) (repeated : Bool) → left ≡ []
    → Seen s list.body list.end left firsts repeated → ◌≡◌ {A = Firsts} (record { each = firsts; repeated = repeated }) (firsts_of s list)
unfolding firsts_of has_repeats
seen_all s list left firsts repeated l seen =
    let none_left = ap (λ (l : List Head). seen.past ++ l) l in
    let all : seen.past ≡ members_in s list = sym (seen.all ∙ (none_left ∙ append-nil seen.past)) in
    let each : firsts ≡ by_slot (first_in_slot s list.end (members_in s list)) = seen.each ∙ ap (λ (l : List Head). by_slot (first_in_slot s list.end l)) all in
    let any : repeated ≡ any_of (seen_before s list.body) (members_in s list) = seen.any ∙ ap (any_of (seen_before s list.body)) all in
    λ j. record { each = each j; repeated = any j }
