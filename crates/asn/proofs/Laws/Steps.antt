-- One step along the alternatives of a type, one along the fields, and one along the elements, in the terms of the tables' rows.
--     taken_here, taken_later                             an alternative of a type
--     no_field, field_found, field_later                  a field of a list, for an element
--     nothing_lacks, one_lacks, lacks_next                a field of a list, for no more elements
--     judged_before, judged_now                           whether the members of an element are to ascend
--     stands_by_test, stands_in_order                     an element, whatever its members are
--     first_inside, stands_not, stands, members_stand, members_not, all_stand     the elements of a list
-- Assumes nothing.
use mathlib.Core.Path.{◌≡◌, refl, sym, ap, ◌∙◌}
use mathlib.Core.Bool.{Bool, true, false, cond, not, ◌||◌}
use mathlib.Core.List.{List, ◌∷◌}
use Prim.Native.Nat.{ℕ, ◌+◌, ◌-◌, ◌/◌, ◌%◌, ◌<◌, ◌≤◌}
use native.Mathlib.Omega.{arith}
use lib.ListN.{get_or}
use lib.Dec.{eqb, ltb}
use borrow.Author.Tests.{eq-eqb, ne_eqb, lt-ltb, le-ltb, eqb-true, eqb-false}
use Rattle.asn.specs.declared.fitting.Found.{Found}
use Rattle.asn.specs.Grammar.{Form, Inside, Slots, passes, set_in_order, takes, follows, Verdict}
use Rattle.asn.specs.Workings.Choosing.{alternative_for, field_for, in_field, may_stand, lacking}
use Rattle.asn.specs.Workings.Choosing.Alternative.{nobody, holding}
use Rattle.asn.specs.Workings.Choosing.Field.{nowhere, here}
use Rattle.asn.specs.Workings.Table.{test_count, types, all_forms, slot_rows, rows_say, form_at, slots_at}
use Rattle.asn.specs.Workings.Table.{test_at, inside_of, form_of, fields_of, alternative_at, field_at}
use Rattle.octets.specs.Octets.{octets_from}
use Rattle.der.specs.Header.{head_of, children_of}
use Rattle.der.specs.declared.header.Head.{Head}
use Rattle.der.proofs.Laws.Header.{head_start, head_forward, head_body}
use Rattle.der.proofs.Laws.Children.{children_done, children_next}
use Rattle.asn.proofs.Laws.Rows.{row_law}
use Rattle.asn.proofs.Laws.Choosing.{members_follow, onward, element_follows, none_follows}
use Rattle.asn.specs.declared.fitting.Misfit.{Misfit}
use Rattle.asn.specs.declared.fitting.Misfit.TheVariants.{Wrong}
use Rattle.std.specs.Prelude.{Ok, Err}
use Rattle.std.specs.Result.{result_and}

-- The row r at place m of a table of types that is right: an alternative, with the others from the next row on; or the 0 that ends a type, which
-- takes any identifier octet.
module _ (rows : List ℕ) (right : rows_say form_of Form.none rows ≡ all_forms types) (m r : ℕ) (e : r ≡ get_or rows m 0)
    (tag : ℕ) (took : Bool) (k : took ≡ takes (r / 256) tag) where
  form_row : form_at m ≡ form_of r (form_at (m + 1))
  unfolding form_at
  form_row = rw e (row_law form_of Form.none (λ a. refl) rows (all_forms types) right m)

  alternative_row : alternative_for (form_at m) tag ≡ cond took (alternative_at r) (alternative_for (form_at (m + 1)) tag)
  alternative_row = rw (form_row, k) (go (eqb r 0) refl)
    where
      go : (b : Bool) → eqb r 0 ≡ b
          → alternative_for (cond b Form.none (Form.alt (r / 256) (inside_of r) (form_at (m + 1)))) tag
          ≡ cond (takes (r / 256) tag) (cond b nobody (holding (inside_of r))) (alternative_for (form_at (m + 1)) tag)
      go true z = rw (eqb-true r 0 z)
      go false z = refl

  pub taken_here : took ≡ true → alternative_for (form_at m) tag ≡ alternative_at r
  taken_here t = rw (alternative_row, t)

  pub taken_later : took ≡ false → alternative_for (form_at m) tag ≡ alternative_for (form_at (m + 1)) tag
  taken_later t = rw (alternative_row, t)

-- the row r at place j of a table of fields that is right: a field, with the others from the next row on, or the end of the fields
module _ (slots : List ℕ) (right : rows_say fields_of Slots.done slots ≡ slot_rows) (j r : ℕ) (e : r ≡ get_or slots j 0) where
  slots_row : slots_at j ≡ fields_of r (slots_at (j + 1))
  unfolding slots_at
  slots_row = rw e (row_law fields_of Slots.done (λ a. refl) slots slot_rows right j)

  pub no_field : (tag : ℕ) → r / 256 ≡ 0 → field_for (slots_at j) tag ≡ nowhere
  no_field tag z = rw (slots_row, eq-eqb (r / 256) 0 z)

  abbrev others : Slots
  others = slots_at (j + 1)

  -- a field by its kind: one that must be there, that may, or that may any number of times
  abbrev by_kind : Bool → Bool → Slots
  by_kind a b = cond a (Slots.one (form_at (r % 256)) others) (cond b (Slots.opt (form_at (r % 256)) others) (Slots.many (form_at (r % 256)) others))

  module _ (nz : r / 256 ≡ 0 → ⊥) where
    field_row : slots_at j ≡ by_kind (eqb (r / 256) 1) (eqb (r / 256) 2)
    field_row = rw (slots_row, ne_eqb (r / 256) 0 nz)

    field_taker : (tag : ℕ) → field_for (slots_at j) tag
        ≡ in_field (alternative_for (form_at (r % 256)) tag) (slots_at (cond (ltb (r / 256) 3) (j + 1) j)) (cond (eqb (r / 256) 1) nowhere (field_for others tag))
    field_taker tag = ap (λ (p : Slots). field_for p tag) field_row ∙ go (eqb (r / 256) 1) refl (eqb (r / 256) 2) refl
      where
        go : (a : Bool) → eqb (r / 256) 1 ≡ a → (b : Bool) → eqb (r / 256) 2 ≡ b
            → field_for (by_kind a b) tag
            ≡ in_field (alternative_for (form_at (r % 256)) tag) (slots_at (cond (ltb (r / 256) 3) (j + 1) j)) (cond a nowhere (field_for others tag))
        go true ea b eb = rw (lt-ltb (r / 256) 3 (omega (arith, eqb-true (r / 256) 1 ea)))
        go false ea true eb = rw (lt-ltb (r / 256) 3 (omega (arith, eqb-true (r / 256) 2 eb)))
        go false ea false eb = rw (le-ltb (r / 256) 3 (omega (arith, nz, eqb-false (r / 256) 1 ea, eqb-false (r / 256) 2 eb)), field_row, ea, eb)

    -- with the row of the alternative of that field that takes an element, 0 for none
    module _ (tag row : ℕ) (found : alternative_at row ≡ alternative_for (form_at (r % 256)) tag) where
      field_step : field_for (slots_at j) tag
          ≡ cond (not (eqb row 0) || eqb (r / 256) 1) (cond (eqb row 0) nowhere (here (inside_of row) (slots_at (cond (ltb (r / 256) 3) (j + 1) j))))
          (field_for others tag)
      field_step = rw (field_taker tag, ← found) (go (eqb row 0) (eqb (r / 256) 1))
        where
          rest : Slots
          rest = slots_at (cond (ltb (r / 256) 3) (j + 1) j)

          go : (a b : Bool) → in_field (cond a nobody (holding (inside_of row))) rest (cond b nowhere (field_for others tag))
              ≡ cond (not a || b) (cond a nowhere (here (inside_of row) rest)) (field_for others tag)
          go true true = refl
          go true false = refl
          go false b = refl

      pub field_found : (not (eqb row 0) || eqb (r / 256) 1) ≡ true → (next : ℕ) → next ≡ cond (ltb (r / 256) 3) (j + 1) j
          → field_for (slots_at j) tag ≡ cond (eqb row 0) nowhere (here (inside_of row) (slots_at next))
      field_found t next n = rw (field_step, t, n)

      pub field_later : (not (eqb row 0) || eqb (r / 256) 1) ≡ false → field_for (slots_at j) tag ≡ field_for others tag
      field_later t = rw (field_step, t)

    pub lacks_next : (o : ℕ) → (r / 256 ≡ 1 → ⊥) → lacking (slots_at j) o ≡ lacking others o
    lacks_next o no1 = rw (field_row, ne_eqb (r / 256) 1 no1) (go (eqb (r / 256) 2))
      where
        go : (b : Bool) → lacking (by_kind false b) o ≡ lacking others o
        go true = refl
        go false = refl

  pub nothing_lacks : (o : ℕ) → r / 256 ≡ 0 → lacking (slots_at j) o ≡ Ok tt
  nothing_lacks o z = rw (slots_row, eq-eqb (r / 256) 0 z)

  pub one_lacks : (o : ℕ) → r / 256 ≡ 1 → lacking (slots_at j) o ≡ Err (Wrong o)
  one_lacks o z = rw (slots_row, z)

-- Whether the members of an element ascend is asked where it is a SET, and was not judged with all of DER.
pub judged_before : (a b c : Bool) → (a || b) ≡ true → true ≡ (a || (b || c))
judged_before true b c t = refl
judged_before false true c t = refl
judged_before false false c t = cc

pub judged_now : (a b c : Bool) → (a || b) ≡ false → c ≡ (a || (b || c))
judged_now true b c t = cc
judged_now false true c t = cc
judged_now false false c t = refl

-- an element, by the row of the alternative that takes it
module _ (s : List ℕ) (h : Head) (r : ℕ) (nz : r ≡ 0 → ⊥) (good : Bool) where
  pub stands_by_test : r % 128 < test_count → (n : ℕ) → n ≡ h.end - h.body → good ≡ passes (test_at (r % 128)) h.tag (octets_from s h.body n)
      → good ≡ may_stand (alternative_at r) s h
  stands_by_test l n k g = rw (ne_eqb r 0 nz, lt-ltb (r % 128) test_count l, ← k) g

  pub stands_in_order : test_count ≤ r % 128 → good ≡ (eqb (r / 128 % 2) 0 || set_in_order s h) → good ≡ may_stand (alternative_at r) s h
  stands_in_order l g = rw (ne_eqb r 0 nz, le-ltb (r % 128) test_count l, g) (go (eqb (r / 128 % 2) 0))
    where
      fields : Slots
      fields = slots_at (r % 128 - test_count)

      go : (b : Bool) → (b || set_in_order s h) ≡ may_stand (holding (cond b (Inside.parts fields) (Inside.set fields))) s h
      go true = refl
      go false = refl

-- the first of the elements from `at` to `end` lies between them
pub first_inside : (s : List ℕ) (at end : ℕ) (h : Head) → at < end → h ≡ head_of s at end → (at < h.body) × (h.body ≤ h.end) × (h.end ≤ end)
first_inside s at end h l i =
    let b = head_body s at end l in
    let f = head_forward s at end l in
    let k = head_start s at end in
    rw i (omega arith, omega arith, omega arith)

-- The elements from `at` to `end`, by the first of them: what was found for it among the fields p, and whether it may stand there.
module _ (s : List ℕ) (o : ℕ) (p : Slots) (at end : ℕ) (h : Head) (found : Found) (good : Bool) (l : at < end) (i : h ≡ head_of s at end)
    (f : field_at found ≡ field_for p h.tag) (g : good ≡ may_stand (alternative_at found.row) s h) where
  abbrev after : List Head
  after = children_of s h.end end

  -- the elements after it, against the fields that are left for them
  abbrev left : Verdict
  left = follows (slots_at found.next) s o after

  first_row : follows p s o (children_of s at end) ≡ cond good (result_and (members_follow s h (inside_of found.row)) left) (Err (Wrong h.at))
  first_row = rw g (first ∙ (element_follows s h o after p ∙ (ap (onward s h o after) (sym f) ∙ go (eqb found.row 0))))
    where
      first : follows p s o (children_of s at end) ≡ follows p s o (h ∷ after)
      first = rw i (ap (follows p s o) (children_next s at end l))

      go : (b : Bool)
          → onward s h o after (cond b nowhere (here (inside_of found.row) (slots_at found.next)))
          ≡ cond (may_stand (cond b nobody (holding (inside_of found.row))) s h) (result_and (members_follow s h (inside_of found.row)) left)
          (Err (Wrong h.at))
      go true = refl
      go false = refl

  pub stands_not : good ≡ false → follows p s o (children_of s at end) ≡ Err (Wrong h.at)
  stands_not t = rw (first_row, t)

  pub stands : good ≡ true → found.row % 128 < test_count → follows p s o (children_of s at end) ≡ left
  stands t m = rw (first_row, t, lt-ltb (found.row % 128) test_count m)

  -- v is what the walk of its members says
  by_members : good ≡ true → test_count ≤ found.row % 128 → (v : Verdict)
      → v ≡ follows (slots_at (found.row % 128 - test_count)) s h.at (children_of s h.body h.end)
      → follows p s o (children_of s at end) ≡ result_and v left
  by_members t m v k = rw (first_row, t, le-ltb (found.row % 128) test_count m, k) (go (eqb (found.row / 128 % 2) 0))
    where
      fields : Slots
      fields = slots_at (found.row % 128 - test_count)

      go : (b : Bool) → result_and (members_follow s h (cond b (Inside.parts fields) (Inside.set fields))) left
          ≡ result_and (follows fields s h.at (children_of s h.body h.end)) left
      go true = refl
      go false = refl

  module _ (t : good ≡ true) (m : test_count ≤ found.row % 128) (v : Verdict)
      (k : v ≡ follows (slots_at (found.row % 128 - test_count)) s h.at (children_of s h.body h.end)) where
    pub members_stand : {u : Unit {0}} → v ≡ Ok u → follows p s o (children_of s at end) ≡ left
    members_stand y = rw (by_members t m v k, y)

    pub members_not : {e : Misfit} → v ≡ Err e → follows p s o (children_of s at end) ≡ Err e
    members_not y = rw (by_members t m v k, y)

pub all_stand : (s : List ℕ) (o : ℕ) (p : Slots) (at end : ℕ) → end ≤ at → follows p s o (children_of s at end) ≡ lacking p o
all_stand s o p at end le = rw (children_done s at end le) (none_follows s o p)
