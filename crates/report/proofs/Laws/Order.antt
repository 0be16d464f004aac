-- The order of a report.
--     none_ordered, join_ordered                     no entries; those of lower rules, and then others
--     wider_ordered                                  as entries of more rules
--     of_rule                                        the entries of one rule
--     children_apart, children_between               the elements of a stretch, as items
--     apart_join, between_join, between_wider        items, and then others
--     in_order_lem, not_equal                            what order says: each entry is before each later one, and no two are equal
-- Assumes nothing.
use mathlib.Core.Path.{◌≡◌, refl, ap}
use mathlib.Core.List.Memᴰ
use mathlib.Core.List.{List, [], ◌∷◌, ◌++◌}
use mathlib.Core.Logic.{inl, ⊎_elim}
use mathlib.Core.Bool.{Bool, true, false}
use Prim.Native.Nat.{ℕ, zero, suc, ◌≤◌, ◌<◌}
use native.Mathlib.Nat.{le_trans, le_refl}
use native.Mathlib.Omega.{arith}
use lib.Dec.{leb}
use lib.ListN.{length, get_or}
use borrow.Author.Tests.{leb-true, leb-false}
use Rattle.report.specs.declared.sink.Entry.{Entry}
use Rattle.report.specs.Order.{In, Before, RisingEntries, Ordered}
use Rattle.report.proofs.Terms.Items.{Apart, LieBetween}
use Rattle.report.specs.Order.RisingEntries.{no_entries, more_entries}
use Rattle.report.proofs.Terms.Items.Apart.{no_items, more_items}
use Rattle.der.specs.Header.{head_of, children_of}
use Rattle.der.proofs.Terms.Walking.{Chain}
use Rattle.der.proofs.Terms.Walking.Chain.{done, next}
use Rattle.der.specs.declared.header.Head.{Head}
use Rattle.der.proofs.Laws.Header.{head_start, head_forward}
use Rattle.der.proofs.Laws.Children.{children_done}
use Rattle.der.proofs.Laws.Walking.{children_chain}

-- ---- lists of entries

pub none_ordered : (from to : ℕ) → from ≤ to → Ordered from to []
none_ordered from to l = record { span = l; rules = λ e m. absurd (Memᴰ.not-nil m); rising = no_entries }

rising_join : {es fs : List Entry} → ((e f : Entry) → In e es → In f fs → Before e f) → RisingEntries es → RisingEntries fs → RisingEntries (es ++ fs)
rising_join f no_entries r = r
rising_join {fs = fs} f (more_entries {e = e} {es = es} k q) r =
    more_entries (λ g m. ⊎_elim (k g) (f e g (Memᴰ.head refl)) (Memᴰ.append_cases es m)) (rising_join (λ d g m n. f d g (Memᴰ.tail m) n) q r)

pub join_ordered : {from mid to : ℕ} {es fs : List Entry} → Ordered from mid es → Ordered mid to fs → Ordered from to (es ++ fs)
join_ordered {from} {mid} {to} {es} {fs} p q =
    record {
      span = le_trans p.span q.span;
      rules = λ e m. ⊎_elim (low e) (high e) (Memᴰ.append_cases es m);
      rising = rising_join (λ e f m n. inl (below e f m n)) p.rising q.rising;
    }
  where
    low : (e : Entry) → In e es → (from ≤ e.rule) × (e.rule < to)
    low e m = let r = p.rules e m in let s = q.span in (r.0, omega arith)

    high : (e : Entry) → In e fs → (from ≤ e.rule) × (e.rule < to)
    high e m = let r = q.rules e m in let s = p.span in (omega arith, r.1)

    below : (e f : Entry) → In e es → In f fs → e.rule < f.rule
    below e f m n = let r = p.rules e m in let s = q.rules f n in omega arith

pub wider_ordered : {from to less more : ℕ} {es : List Entry} → less ≤ from → to ≤ more → Ordered from to es → Ordered less more es
wider_ordered {from} {to} {less} {more} {es} a b p = record { span = le_trans a (le_trans p.span b); rules = wide; rising = p.rising }
  where
    wide : (e : Entry) → In e es → (less ≤ e.rule) × (e.rule < more)
    wide e m = let r = p.rules e m in (omega arith, omega arith)

-- ---- items

pub apart_join : {gs hs : List Head} {from mid to : ℕ} → Apart gs → Apart hs → LieBetween from mid gs → LieBetween mid to hs → Apart (gs ++ hs)
apart_join no_items q k l = q
apart_join {hs = hs} {mid = mid} {to = to} (more_items {h = h} {hs = gs} n f r) q k l =
    more_items n (λ g m. ⊎_elim (f g) (after g) (Memᴰ.append_cases gs m)) (apart_join r q (λ g m. k g (Memᴰ.tail m)) l)
  where
    after : (g : Head) → In g hs → h.end ≤ g.at
    after g m = let x = k h (Memᴰ.head refl) in let y = l g m in omega arith

pub between_wider : {from to less more : ℕ} {hs : List Head} → less ≤ from → to ≤ more → LieBetween from to hs → LieBetween less more hs
between_wider {from} {to} {less} {more} {hs} a b f h m = let r = f h m in (omega arith, r.1, omega arith)

pub between_join : {from to : ℕ} (gs hs : List Head) → LieBetween from to gs → LieBetween from to hs → LieBetween from to (gs ++ hs)
between_join gs hs f g h m = ⊎_elim (f h) (g h) (Memᴰ.append_cases gs m)

-- the elements of a stretch
module _ (s : List ℕ) (end : ℕ) where
  chain_between : {at : ℕ} {hs : List Head} → Chain s end at hs → LieBetween at end hs
  chain_between done h m = absurd (Memᴰ.not-nil m)
  chain_between (next {at = at} {hs = hs} l r) h m = ⊎_elim here (λ k. there (chain_between r h k)) (Memᴰ.cases_cons m)
    where
      here : h ≡ head_of s at end → (at ≤ h.at) × (h.at < h.end) × (h.end ≤ end)
      here e = let f = head_forward s at end l in let k = head_start s at end in rw e (rw k (le_refl at, f.0, f.1))

      there : ((head_of s at end).end ≤ h.at) × (h.at < h.end) × (h.end ≤ end) → (at ≤ h.at) × (h.at < h.end) × (h.end ≤ end)
      there q = let f = head_forward s at end l in (omega arith, q.1, q.2)

  chain_apart : {at : ℕ} {hs : List Head} → Chain s end at hs → Apart hs
  chain_apart done = no_items
  chain_apart (next {at = at} {hs = hs} l r) =
      let f = head_forward s at end l in
      let k = head_start s at end in
      let n : (head_of s at end).at < (head_of s at end).end = omega arith in
      more_items n (λ g m. (chain_between r g m).0) (chain_apart r)

  module _ (at : ℕ) where
    pub children_between : LieBetween at end (children_of s at end)
    children_between = go (leb at end) refl
      where
        go : (b : Bool) → leb at end ≡ b → LieBetween at end (children_of s at end)
        go true t = chain_between (children_chain s at end (leb-true at end t))
        go false t =
            let l = leb-false at end t in
            rw (children_done s at end (omega arith)) (λ h m. absurd (Memᴰ.not-nil m))

    pub children_apart : Apart (children_of s at end)
    children_apart = go (leb at end) refl
      where
        go : (b : Bool) → leb at end ≡ b → Apart (children_of s at end)
        go true t = chain_apart (children_chain s at end (leb-true at end t))
        go false t =
            let l = leb-false at end t in
            rw (children_done s at end (omega arith)) no_items

-- ---- the entries of one rule

pub of_rule : {es : List Entry} (rule to : ℕ) → rule < to → ((e : Entry) → In e es → e.rule ≡ rule) → RisingEntries es → Ordered rule to es
of_rule {es} rule to l f r = record { span = omega arith; rules = λ e m. same e (f e m); rising = r }
  where
    same : (e : Entry) → e.rule ≡ rule → (rule ≤ e.rule) × (e.rule < to)
    same e q = (omega arith, omega arith)

-- ---- what order says

entry_in : (es : List Entry) (i : ℕ) (d : Entry) → i < length es → In (get_or es i d) es
entry_in [] i d l = absurd (omega arith)
entry_in (e ∷ es) zero d l = Memᴰ.head refl
entry_in (e ∷ es) (suc i) d l = Memᴰ.tail (entry_in es i d (omega arith))

pub in_order_lem : {es : List Entry} (i j : ℕ) (d : Entry) → RisingEntries es → i < j → j < length es → Before (get_or es i d) (get_or es j d)
in_order_lem i j d no_entries l k = absurd (omega arith)
in_order_lem i zero d (more_entries f r) l k = absurd (omega arith)
in_order_lem zero (suc j) d (more_entries {es = es} f r) l k = f (get_or es j d) (entry_in es j d (omega arith))
in_order_lem (suc i) (suc j) d (more_entries f r) l k = in_order_lem i j d r (omega arith) (omega arith)

pub not_equal : {es : List Entry} (i j : ℕ) (d : Entry) → RisingEntries es → i < j → j < length es → get_or es i d ≡ get_or es j d → ⊥
not_equal {es} i j d r l k q =
    let x = ap (λ (e : Entry). e.rule) q in
    let y = ap (λ (e : Entry). e.place.start) q in
    ⊎_elim (λ (b : (get_or es i d).rule < (get_or es j d).rule). omega arith) (λ b. omega (arith, b.1)) (in_order_lem i j d r l k)
