-- "One X" as a rule of the form "each".
--     one_by_first                 an entry at the name if there is no first X, and at each X behind it
--     each_all                     each item is at place 0 or behind it
-- Assumes nothing.
use mathlib.Core.Path.{◌≡◌, refl, ap}
use mathlib.Core.List.{List, [], ◌∷◌, ◌++◌, map}
use mathlib.Core.List.Memᴰ
use mathlib.Core.Bool.{Bool, true, false, cond, ◌&&◌}
use Prim.Native.Nat.{ℕ, ◌≤◌, ◌<◌}
use native.Mathlib.Nat.{le_refl}
use native.Mathlib.Omega.{arith}
use lib.Dec.{leb}
use borrow.Author.Tests.{le-leb, lt-leb}
use Rattle.report.specs.declared.sink.Entry.{Entry}
use Rattle.report.specs.Entries.{entry_at, noted}
use Rattle.report.specs.Forms.{filter, ones_of}
use Rattle.report.specs.Workings.Forms.{each, one, is_behind}
use Rattle.report.specs.Order.{In}
use Rattle.report.proofs.Terms.Items.{Apart}
use Rattle.report.proofs.Terms.Items.Apart.{no_items, more_items}
use Rattle.der.specs.Elements.{first_of, is_empty}
use Rattle.der.specs.declared.header.Head.{Head}

-- two tests that agree on the items pick the same
filter_same : (p q : Head → Bool) (hs : List Head) → ((h : Head) → In h hs → p h ≡ q h) → filter p hs ≡ filter q hs
unfolding filter
filter_same p q [] f = refl
filter_same p q (h ∷ hs) f = rw (f h (Memᴰ.head refl), filter_same p q hs (λ g m. f g (Memᴰ.tail m)))

and-true : (a b : Bool) → b ≡ true → a ≡ (a && b)
and-true true b e = rw e
and-true false b e = refl

pub each_all : (rule : ℕ) (bad : Head → Bool) (hs : List Head) → each rule bad hs ≡ each rule (is_behind bad 0) hs
unfolding each
each_all rule bad hs =
    ap (map (entry_at rule)) (filter_same bad (is_behind bad 0) hs (λ h m. and-true (bad h) (leb 0 h.at) (le-leb 0 h.at (omega arith))))

module _ (rule : ℕ) (is_x : Head → Bool) (name : Head) where
  -- an entry at the name if `first` is empty, and at each X behind it
  abbrev by_first : Head → List Head → List Entry
  by_first first hs = noted rule (is_empty first) name ++ each rule (is_behind is_x first.end) hs

  -- h is the first X
  found : (h : Head) (hs : List Head) → h.at < h.end → ((g : Head) → In g hs → h.end ≤ g.at) → is_x h ≡ true
      → one rule is_x name (h ∷ hs) ≡ by_first h (h ∷ hs)
  unfolding filter each one ones_of noted
  found h hs l f t =
      rw (t, lt-leb h.end h.at l)
      (ap (map (entry_at rule))
      (filter_same is_x (is_behind is_x h.end) hs (λ g m. and-true (is_x g) (leb h.end g.at) (le-leb h.end g.at (f g m)))))

  -- h is no X
  passed : (h first : Head) (hs : List Head) → is_x h ≡ false
      → one rule is_x name hs ≡ by_first first hs → one rule is_x name (h ∷ hs) ≡ by_first first (h ∷ hs)
  unfolding filter each one
  passed h first hs t e = rw t e

  pub one_by_first : {hs : List Head} (end : ℕ) → Apart hs
      → one rule is_x name hs ≡ noted rule (is_empty (first_of is_x end hs)) name ++ each rule (is_behind is_x (first_of is_x end hs).end) hs
  unfolding first_of filter each one ones_of noted
  one_by_first end no_items = rw (le-leb end end (le_refl end))
  one_by_first end (more_items {h = h} {hs = hs} l f r) = go (is_x h) refl (one_by_first end r)
    where
      go : (t : Bool) → is_x h ≡ t → one rule is_x name hs ≡ by_first (first_of is_x end hs) hs
          → one rule is_x name (h ∷ hs) ≡ by_first (cond t h (first_of is_x end hs)) (h ∷ hs)
      go true e ih = found h hs l f e
      go false e ih = passed h (first_of is_x end hs) hs e ih
