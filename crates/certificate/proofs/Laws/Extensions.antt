-- Extensions and their slots.
--     slot_three, slot_other             the slot of an identifier of three octets, and of any other
--     slot_below                         a slot is one of the table's, or 0
--     same_slot, slot_same               in a slot other than 0 the identifiers are the same, and the same identifiers are in one slot
--     listed_at                          an identifier of the table, by its slot
--     seen_earlier                       361 looks at the extensions before one
--     repeat_is                          an extension repeats an identifier, by the first before it in its slot
-- Assumes nothing.
use mathlib.Core.Path.{◌≡◌, refl, sym, ap, subst, ◌∙◌}
use mathlib.Core.List.Memᴰ
use mathlib.Core.List.{List, [], ◌∷◌, ◌++◌, Memᴰ}
use mathlib.Core.Bool.{Bool, true, false, cond, not, ◌&&◌, ◌||◌, false≢true}
use Prim.Native.Nat.{ℕ, suc, ◌+◌, ◌-◌, ◌≤◌, ◌<◌}
use native.Mathlib.Omega.{arith}
use lib.ListN.{length, get_or}
use lib.Dec.{eqb}
use borrow.Author.Tests.{eq-eqb, eqb-true, eqb-false}
use Rattle.certificate.specs.Extensions.{access_identifier, nocheck, identifiers, position_from, slot_for, slot_of}
use Rattle.certificate.specs.Workings.Slots.{slot_by}
use Rattle.certificate.specs.Extensions.{identifier_of, same_identifier, seen_before}
use Rattle.certificate.specs.Slots.{slot_count, first_in_slot}
use Rattle.octets.specs.Octets.{octet_at, octets_from}
use Rattle.octets.specs.Same.{same_by, exactly}
use Rattle.octets.proofs.Laws.Octets.{octets_long}
use Rattle.octets.proofs.Laws.Same.{same_length, same_lists, lists_same}
use Rattle.der.specs.Header.{children_of}
use Rattle.der.specs.Comparing.{contents_are}
use Rattle.der.specs.Elements.{any_of, is_empty}
use Rattle.der.specs.Oids.{sevens, subidentifier, subidentifiers, oid}
use Rattle.der.specs.declared.header.Head.{Head}
use Rattle.der.proofs.Laws.Any.{any_same, any_follows}
use Rattle.der.proofs.Laws.Members.{children_before}
use Rattle.der.proofs.Laws.Searching.{Full, children_full, any_full}

-- ---- slots

-- 2.5.29.n, n below 128
abbrev short : ℕ → List ℕ
short n = 0x55 ∷ 0x1D ∷ n ∷ []

three_same : (a b d n : ℕ) → same_by exactly (a ∷ b ∷ d ∷ []) (short n) ≡ ((eqb a 0x55 && eqb b 0x1D) && eqb d n)
unfolding same_by
three_same a b d n = go (eqb a 0x55) (eqb b 0x1D) (eqb d n)
  where
    go : (x y z : Bool) → (x && (y && (z && true))) ≡ ((x && y) && z)
    go true true true = refl
    go true true false = refl
    go true false z = refl
    go false y z = refl

-- 2.5.29.d, or none of the table
three : (a b d : ℕ) → slot_for (a ∷ b ∷ d ∷ []) ≡ cond (eqb a 0x55 && eqb b 0x1D) (slot_by d) 0
unfolding slot_for oid subidentifiers subidentifier sevens
three a b d =
    rw (
      same_length exactly (a ∷ b ∷ d ∷ []) access_identifier (λ e. omega arith),
      same_length exactly (a ∷ b ∷ d ∷ []) nocheck
          (λ e. omega arith),
      three_same a b d 35,
      three_same a b d 19,
      three_same a b d 14,
      three_same a b d 15,
      three_same a b d 37,
      three_same
          a b d 32,
      three_same a b d 17,
      three_same a b d 31,
      three_same a b d 30,
    )
    (go (eqb a 0x55 && eqb b 0x1D))
  where
    go : (x : Bool)
        → cond (x && eqb d 35) 1 (cond (x && eqb d 19) 2 (cond (x && eqb d 14) 3
        (cond (x && eqb d 15) 4 (cond (x && eqb d 37) 5 (cond (x && eqb d 32) 6 (cond (x && eqb d 17) 7 (cond (x && eqb d 31) 9 (cond (x && eqb d 30) 11 0)))))))) ≡
        cond x (slot_by d) 0
    go true = refl
    go false = refl

-- a, b and d are the three octets
pub slot_three : (s : List ℕ) (body n a b d : ℕ) → n ≡ 3 → a ≡ octet_at s body → b ≡ octet_at s (body + 1) → d ≡ octet_at s (body + 2)
    → slot_for (octets_from s body n) ≡ cond (eqb a 0x55 && eqb b 0x1D) (slot_by d) 0
unfolding octets_from
slot_three s body n a b d l p q r =
    let e : body + 1 + 1 ≡ body + 2 = omega arith in
    rw (l, e, ← p, ← q, ← r) (three a b d)

other : (c : List ℕ) → (length c ≡ 3 → ⊥) → slot_for c ≡ cond (same_by exactly c access_identifier) 8 (cond (same_by exactly c nocheck) 10 0)
unfolding slot_for oid subidentifiers subidentifier sevens
other c h = rw (no 35, no 19, no 14, no 15, no 37, no 32, no 17, no 31, no 30)
  where
    no : (n : ℕ) → same_by exactly c (short n) ≡ false
    no n = same_length exactly c (short n) h

-- x and y are whether it is one of the two longer identifiers
pub slot_other : (s : List ℕ) (body n : ℕ) (x y : Bool) → (n ≡ 3 → ⊥) → x ≡ same_by exactly (octets_from s body n) access_identifier
    → y ≡ same_by exactly (octets_from s body n) nocheck → slot_for (octets_from s body n) ≡ cond x 8 (cond y 10 0)
slot_other s body n x y h p q = rw (p, q) (other (octets_from s body n) (λ e. h (sym (octets_long s body n) ∙ e)))

-- ---- a slot is one of the table's, or 0

position_below : (k : ℕ) (is : List (List ℕ)) (c : List ℕ) → 1 ≤ k → position_from k is c < k + length is
position_below k [] c h = omega arith
position_below k (i ∷ is) c h = go (position_from (k + 1) is c) (position_below (k + 1) is c (omega arith)) (same_by exactly c i)
  where
    go : (r : ℕ) → r < k + 1 + length is → (b : Bool) → cond b k r < k + suc (length is)
    go r l true = omega arith
    go r l false = omega arith

pub slot_below : (c : List ℕ) → slot_for c < slot_count
unfolding slot_for
slot_below c = position_below 1 identifiers c (omega arith)

-- ---- a slot other than 0 has one identifier

position_at : (k : ℕ) (is : List (List ℕ)) (c : List ℕ) → (position_from k is c ≡ 0 → ⊥)
    → (k ≤ position_from k is c) × (c ≡ get_or is (position_from k is c - k) [])
position_at k [] c n = absurd (n refl)
position_at k (i ∷ is) c n = go (same_by exactly c i) refl n (position_at (k + 1) is c)
  where
    rest : ℕ
    rest = position_from (k + 1) is c

    go : (b : Bool) → same_by exactly c i ≡ b → (cond b k rest ≡ 0 → ⊥) → ((rest ≡ 0 → ⊥) → (k + 1 ≤ rest) × (c ≡ get_or is (rest - (k + 1)) []))
        → (k ≤ cond b k rest) × (c ≡ get_or (i ∷ is) (cond b k rest - k) [])
    go true e n ih =
        let z : k - k ≡ 0 = omega arith in
        (omega arith, same_lists c i e ∙ ap (λ (m : ℕ). get_or (i ∷ is) m []) (sym z))
    go false e n ih =
        let r = ih n in
        let z : rest - k ≡ suc (rest - (k + 1)) = omega (arith, r.0) in
        (omega (arith, r.0), r.1 ∙ ap (λ (m : ℕ). get_or (i ∷ is) m []) (sym z))

-- an identifier of the table by its slot
pub listed_at : (c : List ℕ) → (slot_for c ≡ 0 → ⊥) → c ≡ get_or identifiers (slot_for c - 1) []
unfolding slot_for
listed_at c n = (position_at 1 identifiers c n).1

one_identifier : (c d : List ℕ) → (slot_for c ≡ 0 → ⊥) → slot_for c ≡ slot_for d → c ≡ d
one_identifier c d n e = listed_at c n ∙ (ap (λ (m : ℕ). get_or identifiers (m - 1) []) e ∙ sym (listed_at d (λ z. n (e ∙ z))))

module _ (s : List ℕ) (e h : Head) where
  pub slot_same : same_identifier s e h ≡ true → slot_of s e ≡ slot_of s h
  unfolding contents_are
  slot_same t = ap slot_for (same_lists (identifier_of s e) (identifier_of s h) t)

  module _ (n : slot_of s h ≡ 0 → ⊥) where
    one_slot : slot_of s e ≡ slot_of s h → same_identifier s e h ≡ true
    unfolding contents_are
    one_slot q =
        let is : identifier_of s e ≡ identifier_of s h = one_identifier (identifier_of s e) (identifier_of s h) (λ z. n (sym q ∙ z)) q in
        rw is (lists_same exactly (identifier_of s h))

    pub same_slot : eqb (slot_of s e) (slot_of s h) ≡ same_identifier s e h
    same_slot = go (same_identifier s e h) refl (eqb (slot_of s e) (slot_of s h)) refl
      where
        go : (b : Bool) → same_identifier s e h ≡ b → (c : Bool) → eqb (slot_of s e) (slot_of s h) ≡ c → c ≡ b
        go true t true u = refl
        go true t false u = absurd (eqb-false (slot_of s e) (slot_of s h) u (slot_same t))
        go false t true u = absurd (false≢true (sym t ∙ one_slot (eqb-true (slot_of s e) (slot_of s h) u)))
        go false t false u = refl

-- ---- the extensions before one

module _ (s : List ℕ) (from end : ℕ) (h : Head) (xs ys : List Head) (is : children_of s from end ≡ xs ++ (h ∷ ys)) where
  pub seen_earlier : seen_before s from h ≡ any_of (λ (e : Head). same_identifier s e h) xs
  unfolding seen_before
  seen_earlier = ap (any_of (λ (e : Head). same_identifier s e h)) (children_before s end h ys xs from is).is

  earlier_full : Full xs
  earlier_full g m = children_full s from end g (subst (Memᴰ g) (sym is) (Memᴰ.append_left (h ∷ ys) m))

  -- there is one before it in its slot
  in_slot : not (is_empty (first_in_slot s end xs (slot_of s h))) ≡ any_of (λ (e : Head). eqb (slot_of s e) (slot_of s h)) xs
  unfolding first_in_slot
  in_slot = sym (any_full (λ (e : Head). eqb (slot_of s e) (slot_of s h)) end xs earlier_full)

  pub repeat_is : (not (is_empty (first_in_slot s end xs (slot_of s h))) && (not (eqb (slot_of s h) 0) || seen_before s from h)) ≡ seen_before s from h
  repeat_is = rw (in_slot, seen_earlier) (go (eqb (slot_of s h) 0) refl)
    where
      same : Bool
      same = any_of (λ (e : Head). same_identifier s e h) xs

      slots : Bool
      slots = any_of (λ (e : Head). eqb (slot_of s e) (slot_of s h)) xs

      and-true : (b : Bool) → (b && true) ≡ b
      and-true true = refl
      and-true false = refl

      listed : (a b : Bool) → (b ≡ true → a ≡ true) → (a && b) ≡ b
      listed true b f = refl
      listed false true f = f refl
      listed false false f = refl

      in_one : (e : Head) → same_identifier s e h ≡ true → eqb (slot_of s e) (slot_of s h) ≡ true
      in_one e t = eq-eqb (slot_of s e) (slot_of s h) (slot_same s e h t)

      go : (b : Bool) → eqb (slot_of s h) 0 ≡ b → (slots && (not b || same)) ≡ same
      go true z = listed slots same (any_follows (λ (e : Head). same_identifier s e h) (λ (e : Head). eqb (slot_of s e) (slot_of s h)) in_one xs)
      go false z =
          and-true slots ∙ any_same (λ (e : Head). eqb (slot_of s e) (slot_of s h)) (λ (e : Head). same_identifier s e h)
          (λ e. same_slot s e h (eqb-false (slot_of s h) 0 z)) xs
