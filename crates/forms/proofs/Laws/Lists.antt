-- Items within items.
--     within_first                 the first of them
--     any_items, turned            there is one exactly if there is a first
--     items_in                     an item is a member of what holds the items of one of the elements
--     parts_apart                  items in a part of each element: their starts rise
--     sets_apart                   the same of the members of the elements
--     one_joined                   "one X" among them
-- Assumes nothing.
use mathlib.Core.Path.{◌≡◌, refl, sym, ◌∙◌}
use mathlib.Core.Bool.{Bool, true, false, cond, not}
use mathlib.Core.List.{List, [], ◌∷◌, ◌++◌, map, Memᴰ}
use mathlib.Core.Logic.{⊎_elim}
use Prim.Native.Nat.{ℕ, ◌≤◌, ◌<◌}
use native.Mathlib.Nat.{le_refl}
use native.Mathlib.Omega.{arith}
use lib.Dec.{leb}
use borrow.Author.Tests.{leb-true, leb-false}
use Rattle.std.specs.Prelude.{Some}
use Rattle.std.specs.Option.{unwrap_or}
use Rattle.std.specs.List.{find}
use Rattle.forms.specs.Lists.{members_of_each, holder_in, items_within, list_of, items_of, attributes_in}
use Rattle.forms.specs.declared.items.Items.{Items}
use Rattle.forms.specs.declared.items.Items.TheVariants.{Members, Within}
use Rattle.forms.specs.declared.nests.Nest.{Nest}
use Rattle.forms.specs.declared.nests.Nest.TheVariants.{Set}
use Rattle.der.specs.Header.{head_of, children_of}
use Rattle.der.specs.Members.{missing, members_in}
use Rattle.der.specs.Elements.{any_of, first_of, is_empty}
use Rattle.der.specs.declared.header.Head.{Head}
use Rattle.der.proofs.Terms.Walking.{Chain}
use Rattle.der.proofs.Terms.Walking.Chain.{done, next}
use Rattle.der.proofs.Laws.Header.{head_forward, head_body}
use Rattle.der.proofs.Laws.Children.{children_done}
use Rattle.der.proofs.Laws.Walking.{children_chain}
use Rattle.der.proofs.Laws.Searching.{Full, first_none, first_join, any_full, any_by_first, children_full}
use Rattle.report.specs.Entries.{noted}
use Rattle.report.specs.Workings.Forms.{each, one, is_behind}
use Rattle.report.specs.Sinks.{SinkPut}
use Rattle.report.specs.declared.sink.Sink.{Sink}
use Rattle.report.proofs.Terms.Items.{Apart, LieBetween}
use Rattle.report.proofs.Terms.Items.Apart.{no_items}
use Rattle.report.proofs.Laws.Sinks.{sink_join}
use Rattle.report.proofs.Laws.First.{one_by_first}
use Rattle.report.proofs.Laws.Order.{apart_join, between_join, between_wider, children_apart, children_between}

-- there is none, where there is one exactly if there is a first
pub turned : (any none : Bool) → any ≡ not none → none ≡ not any
turned any true e = rw e
turned any false e = rw e

-- ---- the first of them

module _ (nest : Nest) (test : Head → Bool) (s : List ℕ) where
  -- the first that passes among the items within an element
  abbrev pub first_held : Head → Head
  first_held h = first_of test (holder_in nest s h).end (members_in s (holder_in nest s h))

  -- the first of those that are there
  pub within_first : (end : ℕ) (hs : List Head)
      → unwrap_or (find (λ h. not (is_empty h)) (map first_held hs)) (missing end) ≡ first_of test end (members_of_each s (map (holder_in nest s) hs))
  unfolding members_of_each
  within_first end [] = sym (first_none test end)
  within_first end (h ∷ hs) =
      go (is_empty (first_held h)) (within_first end hs)
      ∙ sym (first_join test end (members_in s (holder_in nest s h)) (holder_in nest s h).end _ (children_full s _ _))
    where
      go : (b : Bool)
          → unwrap_or (find (λ h. not (is_empty h)) (map first_held hs)) (missing end) ≡ first_of test end (members_of_each s (map (holder_in nest s) hs))
          → unwrap_or (cond (not b) (Some (first_held h)) (find (λ h. not (is_empty h)) (map first_held hs))) (missing end)
          ≡ cond b (first_of test end (members_of_each s (map (holder_in nest s) hs))) (first_held h)
      go true ih = ih
      go false ih = refl

module _ (nest : Nest) (test : Head → Bool) (s : List ℕ) (at end : ℕ) where
  -- items have an octet at least
  members_full : (hs : List Head) → Full (members_of_each s hs)
  unfolding members_of_each
  members_full [] g m = absurd (mathlib.Core.List.Memᴰ.not-nil m)
  members_full (h ∷ hs) g m =
      ⊎_elim (children_full s h.body h.end g) (members_full hs g) (mathlib.Core.List.Memᴰ.append_cases (children_of s h.body h.end) m)

  within_any : any_of test (items_within nest s at end) ≡ not (is_empty (first_of test end (items_within nest s at end)))
  unfolding items_within
  within_any = any_full test end _ (members_full (map (holder_in nest s) (children_of s at end)))

pub any_items : (items : Items) (test : Head → Bool) (s : List ℕ)
    → any_of test (items_of items s) ≡ not (is_empty (first_of test (list_of items).end (items_of items s)))
any_items (Members list) test s = any_by_first test s list.body list.end
any_items (Within nest list) test s = within_any nest test s list.body list.end

-- ---- where they are

members_each : (s : List ℕ) (part : Head → Head) (hs : List Head) (h : Head) → Memᴰ h (members_of_each s (map part hs))
    → (x : Head) × Memᴰ x hs × Memᴰ h (members_in s (part x))
unfolding members_of_each
members_each s part [] h m = absurd (mathlib.Core.List.Memᴰ.not-nil m)
members_each s part (x ∷ xs) h m =
    ⊎_elim (λ (k : Memᴰ h (members_in s (part x))). (x, mathlib.Core.List.Memᴰ.head refl, k))
    (λ (k : Memᴰ h (members_of_each s (map part xs))). let r = members_each s part xs h k in (r.0, mathlib.Core.List.Memᴰ.tail r.1, r.2))
    (mathlib.Core.List.Memᴰ.append_cases (members_in s (part x)) m)

pub items_in : (nest : Nest) (s : List ℕ) (at end : ℕ) (h : Head) → Memᴰ h (items_within nest s at end)
    → (x : Head) × Memᴰ x (children_of s at end) × Memᴰ h (members_in s (holder_in nest s x))
unfolding items_within
items_in nest s at end h m = members_each s (holder_in nest s) (children_of s at end) h m

-- ---- where they lie

-- what holds of every chain, and of no elements, holds of the elements of a stretch
of_children :
    (s : List ℕ) (at end : ℕ) (P : List Head → Type 0) → ((hs : List Head) → Chain s end at hs → P hs) → P [] → P (children_of s at end)
of_children s at end P chain none = go (leb at end) refl
  where
    go : (b : Bool) → leb at end ≡ b → P (children_of s at end)
    go true t = chain _ (children_chain s at end (leb-true at end t))
    go false t =
        let l = leb-false at end t in
        rw (children_done s at end (omega arith)) none

-- part picks what holds the items of an element, and lies in it
module _
    (s : List ℕ) (end : ℕ) (part : Head → Head)
    (lies : (at : ℕ) → at < end → (at ≤ (part (head_of s at end)).body) × ((part (head_of s at end)).end ≤ (head_of s at end).end)) where
  held : (at : ℕ) → at < end → LieBetween at (head_of s at end).end (children_of s (part (head_of s at end)).body (part (head_of s at end)).end)
  held at l =
      let k = lies at l in
      between_wider k.0 k.1 (children_between s (part (head_of s at end)).end (part (head_of s at end)).body)

  chain_between : {at : ℕ} {hs : List Head} → Chain s end at hs → LieBetween at end (members_of_each s (map part hs))
  unfolding members_of_each
  chain_between done = λ h m. absurd (mathlib.Core.List.Memᴰ.not-nil m)
  chain_between (next {at = at} {hs = hs} l r) =
      let f = head_forward s at end l in
      let k : at ≤ (head_of s at end).end = omega arith in
      between_join _ (members_of_each s (map part hs)) (between_wider (le_refl at) f.1 (held at l))
      (between_wider k (le_refl end) (chain_between r))

  chain_apart : {at : ℕ} {hs : List Head} → Chain s end at hs → Apart (members_of_each s (map part hs))
  unfolding members_of_each
  chain_apart done = no_items
  chain_apart (next {at = at} {hs = hs} l r) =
      apart_join (children_apart s (part (head_of s at end)).end (part (head_of s at end)).body) (chain_apart r) (held at l) (chain_between r)

  pub parts_apart : (at : ℕ) → Apart (members_of_each s (map part (children_of s at end)))
  unfolding members_of_each
  parts_apart at = of_children s at end (λ hs. Apart (members_of_each s (map part hs))) (λ hs k. chain_apart k) no_items

module _ (s : List ℕ) (end : ℕ) where
  contents_lie : (at : ℕ) → at < end → (at ≤ (head_of s at end).body) × ((head_of s at end).end ≤ (head_of s at end).end)
  contents_lie at l =
      let b = head_body s at end l in
      (omega arith, le_refl (head_of s at end).end)

  pub sets_apart : (at : ℕ) → Apart (items_within Set s at end)
  unfolding items_within
  sets_apart at = parts_apart s end (holder_in Set s) contents_lie at

-- ---- "one X"

-- found is the first X of a name: an entry at the name if there is none, and then at each X behind it
pub one_joined :
    {a b d : Sink} (rule : ℕ) (is_x : Head → Bool) (s : List ℕ) (name found : Head)
    → found ≡ first_of is_x name.end (attributes_in s name)
    → SinkPut (noted rule (is_empty found) name) a b
    → SinkPut (each rule (is_behind is_x found.end) (attributes_in s name)) b d
    → SinkPut (one rule is_x name (attributes_in s name)) a d
one_joined rule is_x s name found e p q =
    rw (one_by_first rule is_x name name.end (sets_apart s name.end name.body), ← e) (sink_join p q)
