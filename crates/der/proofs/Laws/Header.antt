-- An element's header.
--     head_whole, head_broken            a header by its tests
--     head_short                         a header in the short form
--     head_outside, head_narrow          none where the container passes the octets, or has no two octets left
--     head_cut                           a length may be cut to the largest number, which passes every end
--     head_read                          a header in any form, by what is read of it
--     head_start                         an element starts where it was looked for
--     head_forward                       it ends after it starts, and within its container
--     head_body                          its contents start after it does, and no later than it ends
--     head_inside                        a sound one's contents start two octets later at least, and end where it ends
--     head_constructed                   one whose tag says constructed is sound
--     head_held                          one that holds something is sound
--     head_inner                         it is the same in a part of its container that has room for it
--     head_two                           in a side of less than 65,536 octets no length takes over two octets
-- Assumes nothing.
use mathlib.Core.Path.{◌≡◌, refl, sym, ap, ◌∙◌}
use mathlib.Core.List.{List}
use mathlib.Core.Bool.{Bool, true, false, cond, not, ◌&&◌, ◌||◌}
use Prim.Native.Nat.{ℕ, ◌+◌, ◌-◌, ◌≤◌, ◌<◌, min}
use native.Mathlib.Nat.{min-eq_left}
use native.Mathlib.Omega.{arith}
use lib.ListN.{length}
use lib.Dec.{ltb, leb, eqb}
use borrow.Author.Tests.{lt-ltb, le-ltb, le-leb, lt-leb, leb-true, leb-false, eqb-false, not-true}
use Rattle.der.specs.Contents.{constructed}
use Rattle.der.specs.Header.{tag_ok, length_of, long_ok, length_ok, header_size, whole_head, broken_head, head_if, length_by, head_of}
use Rattle.der.specs.declared.header.Head.{Head}
use Rattle.octets.specs.Octets.{octet_at, octets_from}
use Rattle.octets.specs.Numbers.{number_of, largest}
use Rattle.octets.proofs.Laws.Tests.{and_l, and_r, leb_same}
use Rattle.octets.proofs.Laws.Numbers.{number_long}

-- ---- by its tests

module _ (good : Bool) (at end tag skip len : ℕ) (tags inside : Bool) (t : tags ≡ tag_ok tag) (w : inside ≡ leb (at + (skip + len)) end) where
  pub head_whole : (good && (tags && inside)) ≡ true → whole_head at tag skip len ≡ head_if good at end tag skip len
  head_whole f = rw (← t, ← w, f)

  pub head_broken : (good && (tags && inside)) ≡ false → broken_head at end ≡ head_if good at end tag skip len
  head_broken f = rw (← t, ← w, f)

-- ---- where a length passes the largest number

no_way : (good tags : Bool) (at end tag skip len : ℕ) → end < at + (skip + len) → head_if good at end tag skip len ≡ broken_head at end
no_way good tags at end tag skip len h = rw (lt-leb (at + (skip + len)) end h) (go good (tag_ok tag))
  where
    go : (a b : Bool) → cond (a && (b && false)) (whole_head at tag skip len) (broken_head at end) ≡ broken_head at end
    go true true = refl
    go true false = refl
    go false b = refl

pub head_cut : (good : Bool) (at end tag skip len : ℕ) → 1 ≤ skip → end ≤ largest
    → head_if good at end tag skip (min len largest) ≡ head_if good at end tag skip len
head_cut good at end tag skip len k e = go (leb len largest) refl
  where
    go : (t : Bool) → leb len largest ≡ t → head_if good at end tag skip (min len largest) ≡ head_if good at end tag skip len
    go true f = rw (min-eq_left (leb-true len largest f))
    go false f =
        let l = leb-false len largest f in
        no_way good true at end tag skip (min len largest) (omega arith) ∙ sym (no_way good true at end tag skip len (omega arith))

-- `more` octets of length follow the first, `high` is the first of them, and `len` is what they say, as far as a usize counts
pub head_read : (s : List ℕ) (at end tag first more high len : ℕ) (fewest : Bool) → end ≤ largest → tag ≡ octet_at s at
    → first ≡ octet_at s (at + 1) → more ≡ first - 128 → high ≡ octet_at s (at + 2) → len ≡ min (length_by s at first) largest
    → fewest ≡ long_ok first high len → head_if (leb end (length s) && (ltb first 128 || fewest)) at end tag (2 + more) len ≡ head_of s at end
unfolding head_of
head_read s at end tag first more high len fewest e t f m o l g =
    rw (g, l, m, o, f, t)
    (head_cut (leb end (length s) && (ltb one 128 || long_ok one two (min long largest))) at end (octet_at s at) (2 + (one - 128)) long (omega arith) e
    ∙ ap (λ (b : Bool). head_if (leb end (length s) && (ltb one 128 || (not (eqb one 128) && not (eqb one 255)) && (not (eqb two 0) && b)))
    at end (octet_at s at) (2 + (one - 128)) long) least)
  where
    one : ℕ
    one = octet_at s (at + 1)

    two : ℕ
    two = octet_at s (at + 2)

    long : ℕ
    long = length_by s at (octet_at s (at + 1))

    least : leb 128 (min long largest) ≡ leb 128 long
    least = leb_same 128 (min long largest) 128 long (λ h. omega arith) (λ h. omega arith)

-- ---- by the form of its length

module _ (s : List ℕ) (at end : ℕ) where
  pub head_outside : length s < end → head_of s at end ≡ broken_head at end
  unfolding head_of
  head_outside h = rw (lt-leb end (length s) h)

  pub head_narrow : end < at + 2 → head_of s at end ≡ broken_head at end
  unfolding head_of
  head_narrow h = no_way (leb end (length s) && length_ok s at) true at end (octet_at s at) (header_size s at) (length_of s at) (omega arith)

  -- tag and first are the first two octets
  module _ (tag first : ℕ) (l : end ≤ length s) (p : tag ≡ octet_at s at) (q : first ≡ octet_at s (at + 1)) where
    pub head_short : first < 128 → head_if true at end tag 2 first ≡ head_of s at end
    unfolding head_of
    head_short h =
        let z : first - 128 ≡ 0 = omega arith in
        rw (le-leb end (length s) l, ← q, lt-ltb first 128 h, z, p)

-- ---- where it starts and ends

if_start : (good : Bool) (at end tag skip len : ℕ) → (head_if good at end tag skip len).at ≡ at
if_start good at end tag skip len = go (good && (tag_ok tag && leb (at + (skip + len)) end))
  where
    go : (b : Bool) → (cond b (whole_head at tag skip len) (broken_head at end)).at ≡ at
    go true = refl
    go false = refl

pub head_start : (s : List ℕ) (at end : ℕ) → (head_of s at end).at ≡ at
unfolding head_of
head_start s at end = if_start (leb end (length s) && length_ok s at) at end (octet_at s at) (header_size s at) (length_of s at)

if_forward : (good : Bool) (at end tag skip len : ℕ) → 1 ≤ skip → at < end
    → (at < (head_if good at end tag skip len).end) × ((head_if good at end tag skip len).end ≤ end)
if_forward good at end tag skip len k h = go (good && (tag_ok tag && leb (at + (skip + len)) end)) refl
  where
    go : (b : Bool) → (good && (tag_ok tag && leb (at + (skip + len)) end)) ≡ b
        → (at < (cond b (whole_head at tag skip len) (broken_head at end)).end) × ((cond b (whole_head at tag skip len) (broken_head at end)).end ≤ end)
    go true e = (
      omega arith,
      leb-true (at + (skip + len)) end (and_r (tag_ok tag) (leb (at + (skip + len)) end)
          (and_r good (tag_ok tag && leb (at + (skip + len)) end) e)),
    )
    go false e = (h, omega arith)

pub head_forward : (s : List ℕ) (at end : ℕ) → at < end → (at < (head_of s at end).end) × ((head_of s at end).end ≤ end)
unfolding head_of
head_forward s at end h = if_forward (leb end (length s) && length_ok s at) at end (octet_at s at) (header_size s at) (length_of s at) (omega arith) h

if_body : (good : Bool) (at end tag skip len : ℕ) → 1 ≤ skip → at < end
    → (at < (head_if good at end tag skip len).body) × ((head_if good at end tag skip len).body ≤ (head_if good at end tag skip len).end)
if_body good at end tag skip len k h = go (good && (tag_ok tag && leb (at + (skip + len)) end))
  where
    go : (b : Bool)
        → (at < (cond b (whole_head at tag skip len) (broken_head at end)).body) ×
        ((cond b (whole_head at tag skip len) (broken_head at end)).body ≤ (cond b (whole_head at tag skip len) (broken_head at end)).end)
    go true = (omega arith, omega arith)
    go false = (h, omega arith)

pub head_body : (s : List ℕ) (at end : ℕ) → at < end → (at < (head_of s at end).body) × ((head_of s at end).body ≤ (head_of s at end).end)
unfolding head_of
head_body s at end h = if_body (leb end (length s) && length_ok s at) at end (octet_at s at) (header_size s at) (length_of s at) (omega arith) h

-- ---- what a sound header says

not_sound : ◌≡◌ {A = Bool} false true → ⊥
not_sound e = let n : ◌≡◌ {A = ℕ} 0 1 = cc in omega arith

if_sound : (good : Bool) (at end tag skip len : ℕ) → (head_if good at end tag skip len).sound ≡ true
    → (good ≡ true) × ((at + (skip + len) ≤ end) × (head_if good at end tag skip len ≡ whole_head at tag skip len))
if_sound good at end tag skip len = go (good && (tag_ok tag && leb (at + (skip + len)) end)) refl
  where
    go : (b : Bool) → (good && (tag_ok tag && leb (at + (skip + len)) end)) ≡ b
        → (cond b (whole_head at tag skip len) (broken_head at end)).sound ≡ true
        → (good ≡ true) × ((at + (skip + len) ≤ end) × (cond b (whole_head at tag skip len) (broken_head at end) ≡ whole_head at tag skip len))
    go true e h =
        let inner = and_r good (tag_ok tag && leb (at + (skip + len)) end) e in (
          and_l good (tag_ok tag && leb (at + (skip + len)) end) e,
          (
            leb-true (at + (skip + len)) end
                (and_r (tag_ok tag) (leb (at + (skip + len)) end) inner),
            refl,
          ),
        )
    go false e h = absurd (not_sound h)

pub head_inside : (s : List ℕ) (at end : ℕ) → (head_of s at end).sound ≡ true → (at + 2 ≤ (head_of s at end).body) × ((head_of s at end).body ≤ (head_of s at end).end)
unfolding head_of
head_inside s at end e =
    let w = if_sound (leb end (length s) && length_ok s at) at end (octet_at s at) (header_size s at) (length_of s at) e in
    rw w.1.1 (omega arith, omega arith)

if_constructed : (good : Bool) (at end tag skip len : ℕ) → constructed (head_if good at end tag skip len).tag ≡ true
    → (head_if good at end tag skip len).sound ≡ true
if_constructed good at end tag skip len = go (good && (tag_ok tag && leb (at + (skip + len)) end))
  where
    go : (b : Bool) → constructed (cond b (whole_head at tag skip len) (broken_head at end)).tag ≡ true
        → (cond b (whole_head at tag skip len) (broken_head at end)).sound ≡ true
    go true e = refl
    go false e = e

pub head_constructed : (s : List ℕ) (at end : ℕ) → constructed (head_of s at end).tag ≡ true → (head_of s at end).sound ≡ true
unfolding head_of
head_constructed s at end e = if_constructed (leb end (length s) && length_ok s at) at end (octet_at s at) (header_size s at) (length_of s at) e

-- a length of three octets and more, in the fewest octets, is at least 65,536
long_length : (s : List ℕ) (at : ℕ) → length_ok s at ≡ true → 131 ≤ octet_at s (at + 1) → 65536 ≤ length_of s at
long_length s at e h =
    let far : ltb (octet_at s (at + 1)) 128 ≡ false = le-ltb (octet_at s (at + 1)) 128 (omega arith) in
    let len = number_of (octets_from s (at + 2) (octet_at s (at + 1) - 128)) in
    let least = not (eqb (octet_at s (at + 2)) 0) && leb 128 len in
    let whole : long_ok (octet_at s (at + 1)) (octet_at s (at + 2)) len ≡ true = rw far at e in
    let high = not-true (eqb (octet_at s (at + 2)) 0) (and_l (not (eqb (octet_at s (at + 2)) 0)) (leb 128 len)
    (and_r (not (eqb (octet_at s (at + 1)) 128) && not (eqb (octet_at s (at + 1)) 255)) least whole)) in
    rw far (number_long s (at + 2) (octet_at s (at + 1) - 128) (eqb-false (octet_at s (at + 2)) 0 high) (omega arith))

-- ---- in a part of its container

-- the tests that a header passes, in a container that ends at end
abbrev passed : List ℕ → ℕ → ℕ → Bool
passed s at end = (leb end (length s) && length_ok s at) && (tag_ok (octet_at s at) && leb (at + (header_size s at + length_of s at)) end)

module _ (s : List ℕ) (at end : ℕ) where
  abbrev whole : Head
  whole = whole_head at (octet_at s at) (header_size s at) (length_of s at)

  pub head_held : (head_of s at end).body < (head_of s at end).end → (head_of s at end).sound ≡ true
  unfolding head_of
  head_held = go (passed s at end)
    where
      go : (b : Bool) → (cond b whole (broken_head at end)).body < (cond b whole (broken_head at end)).end → (cond b whole (broken_head at end)).sound ≡ true
      go true h = refl
      go false h = absurd (omega (arith, h))

  passed_inner : (to : ℕ) → passed s at end ≡ true → at + (header_size s at + length_of s at) ≤ to → to ≤ end → passed s at to ≡ true
  passed_inner to e l m =
      let size = at + (header_size s at + length_of s at) in
      let front = and_l (leb end (length s) && length_ok s at) (tag_ok (octet_at s at) && leb size end) e in
      let back = and_r (leb end (length s) && length_ok s at) (tag_ok (octet_at s at) && leb size end) e in
      let within = leb-true end (length s) (and_l (leb end (length s)) (length_ok s at) front) in
      rw (
        le-leb to (length s) (omega (arith, m, within)),
        and_r (leb end (length s)) (length_ok s at) front,
        and_l (tag_ok (octet_at s at)) (leb size end) back,
        le-leb size to l,
      )

  -- one that is not sound ends where its container does
  pub head_inner : (to : ℕ) → (head_of s at end).end ≤ to → to ≤ end → head_of s at to ≡ head_of s at end
  unfolding head_of
  head_inner to l m = go (passed s at end) refl l
    where
      go : (b : Bool) → passed s at end ≡ b → (cond b whole (broken_head at end)).end ≤ to
          → cond (passed s at to) whole (broken_head at to) ≡ cond b whole (broken_head at end)
      go true e l = ap (λ (b : Bool). cond b whole (broken_head at to)) (passed_inner to e l m)
      go false e l =
          let q : to ≡ end = omega (arith, l, m) in
          ap (λ (n : ℕ). cond (passed s at n) whole (broken_head at n)) q ∙ ap (λ (b : Bool). cond b whole (broken_head at end)) e

pub head_two : (s : List ℕ) (at end : ℕ) → length s < 65536 → (head_of s at end).sound ≡ true → octet_at s (at + 1) < 131
unfolding head_of
head_two s at end l e = go (leb 131 (octet_at s (at + 1))) refl
  where
    go : (t : Bool) → leb 131 (octet_at s (at + 1)) ≡ t → octet_at s (at + 1) < 131
    go false t = leb-false 131 (octet_at s (at + 1)) t
    go true t =
        let w = if_sound (leb end (length s) && length_ok s at) at end (octet_at s at) (header_size s at) (length_of s at) e in
        let within = leb-true end (length s) (and_l (leb end (length s)) (length_ok s at) w.0) in
        let long = long_length s at (and_r (leb end (length s)) (length_ok s at) w.0) (leb-true 131 (octet_at s (at + 1)) t) in
        let inside = w.1.0 in
        absurd (omega arith)
