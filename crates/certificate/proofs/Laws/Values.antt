-- What is read of the extension in a slot.
--     slot_empty                 of none
--     slots_law                  of each slot, as the code reads it
--     slot_at                    a list has an entry for each slot, which is that of the first extension in it
--     slot_place, slot_there     where a slot is not empty, its extension is one of the list
--     slot_good                  a good value
-- Assumes nothing.
use mathlib.Core.Path.{◌≡◌, refl, sym, ap, subst, ◌∙◌}
use mathlib.Core.List.{List, [], ◌∷◌, Memᴰ}
use mathlib.Core.Bool.{Bool, true, false, cond, not, ◌&&◌}
use Prim.Native.Nat.{ℕ, ◌<◌}
use native.Mathlib.Omega.{arith}
use lib.ListN.{get_or}
use lib.Dec.{ltb, eqb}
use borrow.Author.Tests.{ltb-true, ltb-false, not-true, eqb-true}
use Rattle.certificate.specs.Extensions.{slot_of, extension_of}
use Rattle.certificate.specs.Slots.{slot_count, by_slot, first_in_slot, is_good, slot_from, empty_slot, slots_of, read_slots}
use Rattle.certificate.specs.Workings.Slots.{firsts_of}
use Rattle.certificate.proofs.Terms.Named.{SlotNamed, ValueNamed}
use Rattle.certificate.specs.declared.slots.Firsts.{Firsts}
use Rattle.certificate.specs.declared.slots.Slot.{Slot}
use Rattle.certificate.specs.declared.slots.SlotTable.{SlotTable}
use Rattle.octets.proofs.Laws.Tests.{and_l, and_r}
use Rattle.der.specs.Header.{head_of}
use Rattle.der.specs.Members.{missing, members_in, first_in, after, second_in, past}
use Rattle.der.specs.Elements.{is_empty}
use Rattle.der.specs.Soundness.{stretch_soundness}
use Rattle.der.specs.declared.header.Head.{Head}
use Rattle.der.proofs.Laws.Header.{head_narrow, head_held}
use Rattle.der.proofs.Laws.Children.{children_done}
use Rattle.der.proofs.Laws.Searching.{children_full, missing_empty, first_missing, first_among, first_passes}
use Rattle.der.proofs.Laws.Walks.{ok_alone, sound_stretch}
use Rattle.asn.specs.Module.{value_of}
use Rattle.asn.specs.Answers.{only_element, value_ok}
use Rattle.asn.proofs.Laws.Fields.{one_fits, done_fits}
use Rattle.certificate.proofs.Laws.Named.{stands_here}
use Rattle.certificate.proofs.Laws.Slots.{unread, by_slot_at, by_slot_same}
use Rattle.std.specs.Prelude.{Ok, is_ok}

-- ---- of none

module _ (s : List ℕ) (end slot : ℕ) where
  none_first : first_in s (missing end) ≡ missing end
  none_first = head_narrow s end end (omega arith)

  none_second : second_in s (missing end) ≡ missing end
  none_second = (λ j. after s (none_first j) end) ∙ none_first

  none_value : (extension_of s (missing end)).value ≡ missing end
  unfolding extension_of past
  none_value = λ j. past 0x01 s (none_second j) end

  none_critical : (extension_of s (missing end)).critical ≡ false
  unfolding extension_of
  none_critical = λ j. eqb (none_second j).tag 0x01

  none_good : (holder : Head) → is_good s slot (missing end) holder ≡ false
  none_good holder = rw (missing_empty end) (go (not (eqb slot 0)))
    where
      go : (b : Bool) → ((b && false) && value_ok s slot holder.body holder.end) ≡ false
      go true = refl
      go false = refl

  pub slot_empty : slot_from s slot (missing end) ≡ empty_slot (missing end)
  unfolding slot_from
  slot_empty =
      let element : first_in s (extension_of s (missing end)).value ≡ missing end = (λ j. first_in s (none_value j)) ∙ none_first in
      λ j. record {
        place = missing end;
        critical = none_critical j;
        holder = none_value j;
        element = element j;
        good = none_good (extension_of s (missing end)).value j;
      }

-- ---- as the code reads them

-- the slot of the first extension h, where `none` stands for that of no extension
abbrev pub slot_or : List ℕ → Slot → ℕ → Head → Slot
slot_or s none slot h = cond (is_empty h) none (slot_from s slot h)

module _ (s : List ℕ) (list : Head) where
  abbrev first : ℕ → Head
  first = first_in_slot s list.end (members_in s list)

  none_there : (slot : ℕ) → is_empty (first slot) ≡ true → first slot ≡ missing list.end
  unfolding first_in_slot
  none_there slot t = first_missing _ list.end (members_in s list) (children_full s list.body list.end) t

  or_empty : (slot : ℕ) → slot_or s (empty_slot (missing list.end)) slot (first slot) ≡ slot_from s slot (first slot)
  or_empty slot = go (is_empty (first slot)) refl
    where
      go : (b : Bool) → is_empty (first slot) ≡ b → cond b (empty_slot (missing list.end)) (slot_from s slot (first slot)) ≡ slot_from s slot (first slot)
      go true t = sym (ap (slot_from s slot) (none_there slot t) ∙ slot_empty s list.end slot)
      go false t = refl

  pub slots_law : (found : Firsts) (none : Slot) (end : Head) (each : List Slot) → found ≡ firsts_of s list → end ≡ missing list.end
      → none ≡ empty_slot end → each ≡ by_slot (λ (k : ℕ). slot_or s none k (get_or found.each k unread))
      → ◌≡◌ {A = SlotTable} (record { each = each; repeated = found.repeated }) (read_slots s list)
  unfolding read_slots slots_of firsts_of
  slots_law found none end each f m n e =
      let empty : none ≡ empty_slot (missing list.end) = n ∙ ap empty_slot m in
      let firsts : get_or found.each ≡ get_or (by_slot first) = λ j. get_or (f j).each in
      let each_is : each ≡ by_slot (λ (k : ℕ). slot_from s k (first k)) = e ∙
      ((λ j. by_slot (λ (k : ℕ). slot_or s (empty j) k (firsts j k unread))) ∙ by_slot_same none _ _
      (λ slot h. ap (slot_or s (empty_slot (missing list.end)) slot) (by_slot_at first unread slot h) ∙ or_empty slot)) in
      λ j. record { each = each_is j; repeated = (f j).repeated }

-- ---- a value that passes

-- an element as it is read in a container that ends at end
record Read (s : List ℕ) (end : ℕ) (h : Head) : Type 0 where
  place : ℕ
  is : h ≡ head_of s place end

value_read : (s : List ℕ) (h : Head) → Read s h.end (extension_of s h).value
unfolding extension_of past
value_read s h = go (eqb (second_in s h).tag 0x01)
  where
    go : (t : Bool) → Read s h.end (cond t (after s (second_in s h) h.end) (second_in s h))
    go true = record { place = (second_in s h).end; is = refl }
    go false = record { place = (first_in s h).end; is = refl }

read_sound : (s : List ℕ) (end : ℕ) (h : Head) → Read s end h → h.body < h.end → h.sound ≡ true
read_sound s end h r b =
    let held : (head_of s r.place end).body < (head_of s r.place end).end = rw (← r.is) b in
    ap (λ (y : Head). y.sound) r.is ∙ head_held s r.place end held

module _ (s : List ℕ) (slot : ℕ) (h : Head) (e : value_ok s slot h.body h.end ≡ true) where
  whole_value : stretch_soundness s h.body h.end ≡ Ok tt
  unfolding value_ok
  whole_value = ok_alone _ (and_l (is_ok (stretch_soundness s h.body h.end)) _ e)

  one_value : only_element (value_of slot) s h.body h.end ≡ Ok tt
  unfolding value_ok
  one_value = ok_alone _ (and_r (is_ok (stretch_soundness s h.body h.end)) _ e)

  held_value : h.body < h.end
  held_value = go (ltb h.body h.end) refl
    where
      go : (t : Bool) → ltb h.body h.end ≡ t → h.body < h.end
      go true l = ltb-true h.body h.end l
      go false l =
          let a = one_fits _ _ s h.body _ one_value in
          let k : ◌≡◌ {A = List Head} [] (a.first ∷ a.rest) = sym (children_done s h.body h.end (ltb-false h.body h.end l)) ∙ a.is in
          let z : ◌≡◌ {A = ℕ} 0 1 = cc k in
          absurd (omega arith)

-- ---- the slots of a list

module _ (s : List ℕ) (list : Head) where
  pub slot_at : (slot : ℕ) (d : Slot) → slot < slot_count → get_or (slots_of s list) slot d ≡ slot_from s slot (first_in_slot s list.end (members_in s list) slot)
  unfolding slots_of
  slot_at slot d l = by_slot_at (λ (k : ℕ). slot_from s k (first s list k)) d slot l

  module _ (slot : ℕ) where
    abbrev place : Head
    place = first s list slot

    abbrev holder : Head
    holder = (extension_of s place).value

    place_among : is_empty place ≡ false → Memᴰ place (members_in s list)
    unfolding first_in_slot
    place_among t = first_among _ list.end (members_in s list) t

    place_slot : is_empty place ≡ false → slot_of s place ≡ slot
    unfolding first_in_slot
    place_slot t = eqb-true _ slot (first_passes _ list.end (members_in s list) t)

    from_there : is_empty place ≡ false → SlotNamed s slot list (slot_from s slot place)
    unfolding slot_from
    from_there t = record { among = place_among t; slot_is = place_slot t; critical_is = refl; holder_is = refl; element_is = refl }

    good_is : (slot_from s slot place).good ≡ true → is_good s slot place holder ≡ true
    unfolding slot_from
    good_is g = g

    from_good : is_good s slot place holder ≡ true → ValueNamed s slot list (slot_from s slot place)
    unfolding slot_from
    from_good g =
        let tests = and_l (not (eqb slot 0) && not (is_empty place)) (value_ok s slot holder.body holder.end) g in
        let ok = and_r (not (eqb slot 0) && not (is_empty place)) (value_ok s slot holder.body holder.end) g in
        let there = not-true (is_empty place) (and_r (not (eqb slot 0)) (not (is_empty place)) tests) in
        let whole = whole_value s slot holder ok in
        let a = one_fits _ _ s holder.body _ (one_value s slot holder ok) in
        let d = done_fits s holder.body _ a.more in
        let alone : members_in s holder ≡ a.first ∷ [] = cc (a.is, d) in
        let element : first_in s holder ≡ a.first = stands_here s holder.end _ _ _ (record { place = holder.body; is = refl; members = alone }) in
        record {
          there = there;
          named = from_there there;
          sound = read_sound s place.end holder (value_read s place) (held_value s slot holder ok);
          filled = whole;
          alone = alone ∙ (λ i. sym element i ∷ []);
          elements = (sound_stretch s holder.body holder.end whole).1;
          element_fits = rw element a.fit;
        }

  -- v is the entry of a slot
  module _ (slot : ℕ) (d : Slot) (l : slot < slot_count) where
    abbrev value : Slot
    value = get_or (slots_of s list) slot d

    pub slot_place : value.place ≡ first_in_slot s list.end (members_in s list) slot
    unfolding slot_from
    slot_place = ap (λ (v : Slot). v.place) (slot_at slot d l)

    pub slot_there : is_empty value.place ≡ false → SlotNamed s slot list value
    slot_there t = subst (SlotNamed s slot list) (sym (slot_at slot d l)) (from_there slot (ap is_empty (sym slot_place) ∙ t))

    pub slot_good : value.good ≡ true → ValueNamed s slot list value
    slot_good g =
        let is = slot_at slot d l in
        subst (ValueNamed s slot list) (sym is) (from_good slot (good_is slot (sym (ap (λ (v : Slot). v.good) is) ∙ g)))
