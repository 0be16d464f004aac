-- The code's entry for a slot of the table is how the extension with its identifier stands.
--     slot_identifier      the extensions in a slot are those with its identifier
--     standing_is          so the code's entry says how the first of them stands, and whatever stands there has such an entry
--     table_at             the standing of a slot of the table
--     known_is             what counts of an issuer, as the code reads it
-- Assumes nothing.
use mathlib.Core.Path.{◌≡◌, refl, sym, ap, ◌∙◌}
use mathlib.Core.List.{List, [], ◌∷◌}
use mathlib.Core.List.Memᴰ
use mathlib.Core.Bool.{Bool, true, false, cond, false≢true}
use Prim.Native.Nat.{ℕ, zero, suc, ◌+◌, ◌-◌, ◌<◌}
use native.Mathlib.Omega.{arith}
use lib.ListN.{get_or}
use Rattle.std.specs.Prelude.{Ok, Err}
use Rattle.std.specs.Result.{result_ok}
use lib.Dec.{eqb}
use borrow.Author.Tests.{lt-leb, ne_eqb, eqb-true, eqb-false}
use Rattle.certificate.specs.Extensions.{identifier_of, extension_of, identifiers, slot_for, slot_of}
use Rattle.certificate.specs.Fields.{certificate_of}
use Rattle.certificate.specs.Issuer.{key_identifier_in, known_of, key_id_in, element_in, issuer_of, key_identifier_of, known}
use Rattle.certificate.specs.Slots.{slot_count, first_in_slot, slot_from, empty_slot, slots_of}
use Rattle.certificate.specs.Standing.{Standing, by_value, first_with, identifier_at, standing_in, over_table, standing_at, extension_by, standing_by}
use Rattle.certificate.specs.declared.slots.Slot.{Slot}
use Rattle.octets.specs.Same.{same_by, exactly}
use Rattle.octets.proofs.Laws.Same.{same_lists, lists_same}
use Rattle.octets.proofs.Laws.Finite.{all_below, all_below_lem}
use Rattle.der.specs.Elements.{first_of, is_empty}
use Rattle.der.specs.Members.{missing, members_in}
use Rattle.der.specs.Order.{octets_of}
use Rattle.der.specs.Oids.{sevens, subidentifier, subidentifiers, oid}
use Rattle.der.specs.declared.header.Head.{Head}
use Rattle.der.proofs.Laws.Searching.{Full, children_full, missing_empty}
use Rattle.certificate.proofs.Laws.Extensions.{listed_at}
use Rattle.certificate.proofs.Laws.Slots.{numbers_at}
use Rattle.certificate.proofs.Laws.Values.{slot_empty, slot_at}

-- ---- identifiers

-- the identifiers of the table have its slots
table_slots : all_below (λ j. eqb (slot_for (get_or identifiers j [])) (j + 1)) 11 ≡ true
unfolding all_below slot_for same_by oid subidentifiers subidentifier sevens
table_slots = refl

pub slot_identifier : (k : ℕ) (c : List ℕ) → 0 < k → k < slot_count → eqb (slot_for c) k ≡ same_by exactly c (identifier_at k)
slot_identifier k c l m = go (same_by exactly c (identifier_at k)) refl (eqb (slot_for c) k) refl
  where
    slot_of_lem : c ≡ identifier_at k → slot_for c ≡ k
    slot_of_lem e =
        let z : k - 1 + 1 ≡ k = omega (arith, l) in
        ap slot_for e
        ∙ (eqb-true _ _ (all_below_lem (λ j. eqb (slot_for (get_or identifiers j [])) (j + 1)) 11 (k - 1) table_slots (omega (arith, l, m))) ∙ z)

    go : (b : Bool) → same_by exactly c (identifier_at k) ≡ b → (d : Bool) → eqb (slot_for c) k ≡ d → d ≡ b
    go true t true u = refl
    go false t false u = refl
    go true t false u = absurd (eqb-false (slot_for c) k u (slot_of_lem (same_lists c (identifier_at k) t)))
    go false t true u =
        let q = eqb-true (slot_for c) k u in
        let is : c ≡ identifier_at k = listed_at c (λ z. omega (arith, l, q, z)) ∙ ap identifier_at q in
        let same : same_by exactly c (identifier_at k) ≡ true = rw is (lists_same exactly (identifier_at k)) in
        absurd (false≢true (sym t ∙ same))

-- ---- the first of some extensions

module _ (s : List ℕ) (end k : ℕ) (l : 0 < k) (m : k < slot_count) where
  -- of none
  none_stands : standing_by (slot_from s k (missing end)) ≡ Standing.missing
  none_stands = ap standing_by (slot_empty s end k) ∙ (λ j. cond (missing_empty end j) Standing.missing (Standing.bad (extension_by (empty_slot (missing end)))))

  -- of an extension
  one_stands : (h : Head) → h.at < h.end → standing_by (slot_from s k h) ≡ by_value s k (extension_of s h)
  unfolding slot_from extension_of
  one_stands h f = rw (lt-leb h.end h.at f, ne_eqb k 0 (λ e. omega (arith, l, e)))

  first_stands : (hs : List Head) → Full hs → standing_by (slot_from s k (first_in_slot s end hs k)) ≡ first_with s k (identifier_at k) hs
  unfolding first_in_slot first_of first_with
  first_stands [] full = none_stands
  first_stands (h ∷ hs) full =
      rw (slot_identifier k (identifier_of s h) l m) (go (same_by exactly (identifier_of s h) (identifier_at k)) (first_stands hs (λ g i. full g (Memᴰ.tail i))))
    where
      go : (b : Bool) → standing_by (slot_from s k (first_of (λ (g : Head). eqb (slot_of s g) k) end hs)) ≡ first_with s k (identifier_at k) hs
          → standing_by (slot_from s k (cond b h (first_of (λ (g : Head). eqb (slot_of s g) k) end hs)))
          ≡ cond b (by_value s k (extension_of s h)) (first_with s k (identifier_at k) hs)
      go true ih = one_stands h (full h (Memᴰ.head refl))
      go false ih = ih

pub standing_is : (s : List ℕ) (list : Head) (k : ℕ) (d : Slot) → 0 < k → k < slot_count → standing_by (get_or (slots_of s list) k d) ≡ standing_in s list k
unfolding standing_in
standing_is s list k d l m =
    ap standing_by (slot_at s list k d m) ∙ first_stands s list.end k l m (members_in s list) (children_full s list.body list.end)

pub table_at : (f : ℕ → Standing) (k : ℕ) → 0 < k → k < slot_count → standing_at (over_table f) k ≡ f k
table_at f zero l m = absurd (omega (arith, l))
table_at f (suc k) l m =
    let e : 1 + k ≡ suc k = omega arith in
    numbers_at f Standing.missing 1 (slot_count - 1) k (omega (arith, m)) ∙ ap f e

-- ---- the issuer's

key_by : (octets : List ℕ) (v : Slot) → key_identifier_of octets (result_ok (element_in v)) ≡ key_identifier_in octets (standing_by v)
key_by octets v = go v.good (is_empty v.place)
  where
    go : (g e : Bool) → key_identifier_of octets (result_ok (cond g (Ok v.element) (Err v.element)))
        ≡ key_identifier_in octets (cond g (Standing.good (extension_by v) v.element) (cond e Standing.missing (Standing.bad (extension_by v))))
    go true e = refl
    go false true = refl
    go false false = refl

pub known_is : (octets : List ℕ) → known octets (issuer_of octets) ≡ known_of octets
unfolding issuer_of known_of key_id_in standing_in
known_is octets =
    let list = (certificate_of octets).extensions in
    let stands = first_stands octets list.end 3 (omega arith) (omega arith) (members_in octets list) (children_full octets list.body list.end) in
    let key = key_by octets (slot_from octets 3 (first_in_slot octets list.end (members_in octets list) 3)) ∙ ap (key_identifier_in octets) stands in
    λ j. record { name = octets_of octets (certificate_of octets).subject; key = key j }
