-- Tables of refusals: of any table in which no two rows have the same number and side, and none has number 0.
--     by_table     the first row that applies is given, and each row exactly when it applies and none above it does
-- Assumes nothing.
use mathlib.Core.Bool.{Bool, true, false, false≢true, not, ◌&&◌}
use mathlib.Core.List.{List, [], ◌∷◌, ◌++◌}
use mathlib.Core.Path.{◌≡◌, refl, sym, ap, subst, ◌∙◌}
use Prim.Native.Nat.{ℕ}
use lib.Dec.{eqb}
use borrow.Author.Tests.{eq-eqb}
use Rattle.demands.specs.First.{NoneApplies, GivenExactly, ByTable}
use Rattle.octets.proofs.Laws.Tests.{and_l, and_r}
use Rattle.refusals.specs.Table.{refused, RefusalRow, first_that_applies}
use Rattle.refusals.specs.declared.table.Values.{Values}

abbrev same : RefusalRow → RefusalRow → Bool
same a b = eqb a.number b.number && eqb a.side b.side

abbrev none_same : RefusalRow → List RefusalRow → Bool
none_same r [] = true
none_same r (x ∷ xs) = not (same x r) && none_same r xs

-- no two rows are the same, and none has number 0
abbrev pub well_formed : List RefusalRow → Bool
well_formed [] = true
well_formed (r ∷ rs) = (not (eqb r.number 0) && none_same r rs) && well_formed rs

-- ---- what the tests say

abbrev Differ : RefusalRow → RefusalRow → Type 0
Differ x r = x.number ≡ r.number → x.side ≡ r.side → ⊥

abbrev AllDiffer : List RefusalRow → RefusalRow → Type 0
AllDiffer [] r = Unit {0}
AllDiffer (x ∷ xs) r = Differ x r × AllDiffer xs r

not_both : (b : Bool) → not b ≡ true → b ≡ true → ⊥
not_both true n t = false≢true n
not_both false n t = false≢true t

both_equal : (a b x y : ℕ) → a ≡ x → b ≡ y → (eqb a x && eqb b y) ≡ true
both_equal a b x y e f = rw (eq-eqb a x e, eq-eqb b y f)

differ : (x r : RefusalRow) → not (same x r) ≡ true → Differ x r
differ x r n e f = not_both (same x r) n (both_equal x.number x.side r.number r.side e f)

all_differ : (r : RefusalRow) (xs : List RefusalRow) → none_same r xs ≡ true → AllDiffer xs r
all_differ r [] t = tt
all_differ r (x ∷ xs) t =
    (differ x r (and_l (not (same x r)) (none_same r xs) t), all_differ r xs (and_r (not (same x r)) (none_same r xs) t))

-- of a row with others above and below it
record Parted (above below : List RefusalRow) (r : RefusalRow) : Type 0 where
  higher : AllDiffer above r
  lower : AllDiffer below r
  some : r.number ≡ 0 → ⊥

differ_at : (x : RefusalRow) (above below : List RefusalRow) (r : RefusalRow) → none_same x (above ++ (r ∷ below)) ≡ true → Differ x r
differ_at x [] below r t = λ e f. differ r x (and_l (not (same r x)) (none_same x below) t) (sym e) (sym f)
differ_at x (y ∷ ys) below r t = differ_at x ys below r (and_r (not (same y x)) (none_same x (ys ++ (r ∷ below))) t)

parted : (above below : List RefusalRow) (r : RefusalRow) → well_formed (above ++ (r ∷ below)) ≡ true → Parted above below r
parted [] below r t =
    let first = and_l (not (eqb r.number 0) && none_same r below) (well_formed below) t in
    record {
      higher = tt;
      lower = all_differ r below (and_r (not (eqb r.number 0)) (none_same r below) first);
      some = λ e. not_both (eqb r.number 0) (and_l (not (eqb r.number 0)) (none_same r below) first) (eq-eqb r.number 0 e);
    }
parted (x ∷ xs) below r t =
    let first = and_l (not (eqb x.number 0) && none_same x (xs ++ (r ∷ below))) (well_formed (xs ++ (r ∷ below))) t in
    let later = parted xs below r (and_r (not (eqb x.number 0) && none_same x (xs ++ (r ∷ below))) (well_formed (xs ++ (r ∷ below))) t) in
    record {
      higher = (differ_at x xs below r (and_r (not (eqb x.number 0)) (none_same x (xs ++ (r ∷ below))) first), later.higher);
      lower = later.lower;
      some = later.some;
    }

-- ---- a row given exactly when it says

module _ (otherwise : Values) (none : otherwise.number ≡ 0) where
  given_when : (above below : List RefusalRow) (r : RefusalRow) → (r.applies ≡ true) × NoneApplies above
      → first_that_applies (above ++ (r ∷ below)) otherwise ≡ refused r.number r.side r.place
  given_when [] below r h = rw h.0
  given_when (x ∷ xs) below r h = rw h.1.0 (given_when xs below r (h.0, h.1.1))

  -- a row that differs from all of these is not given by them
  not_given : (rs : List RefusalRow) (r : RefusalRow) → AllDiffer rs r → (r.number ≡ 0 → ⊥)
      → (first_that_applies rs otherwise).number ≡ r.number → (first_that_applies rs otherwise).side ≡ r.side → ⊥
  not_given [] r d some = λ e f. some (sym e ∙ none)
  not_given (x ∷ xs) r d some = go x.applies refl (not_given xs r d.1 some)
    where
      go : (b : Bool) → x.applies ≡ b
          → ((first_that_applies xs otherwise).number ≡ r.number → (first_that_applies xs otherwise).side ≡ r.side → ⊥)
          → (first_that_applies (x ∷ xs) otherwise).number ≡ r.number → (first_that_applies (x ∷ xs) otherwise).side ≡ r.side → ⊥
      go true t later e f = d.0 (rw t at e) (rw t at f)
      go false t later e f = later (rw t at e) (rw t at f)

  given_only : (above below : List RefusalRow) (r : RefusalRow) → Parted above below r
      → (first_that_applies (above ++ (r ∷ below)) otherwise).number ≡ r.number → (first_that_applies (above ++ (r ∷ below)) otherwise).side ≡ r.side
      → (r.applies ≡ true) × NoneApplies above
  given_only [] below r d = go r.applies refl
    where
      go : (b : Bool) → r.applies ≡ b → (first_that_applies (r ∷ below) otherwise).number ≡ r.number → (first_that_applies (r ∷ below) otherwise).side ≡ r.side
          → (r.applies ≡ true) × Unit {0}
      go true t e f = (t, tt)
      go false t e f = absurd (not_given below r d.lower d.some (rw t at e) (rw t at f))
  given_only (x ∷ xs) below r d =
      go x.applies refl (given_only xs below r (record { higher = d.higher.1; lower = d.lower; some = d.some }))
    where
      go : (b : Bool) → x.applies ≡ b
          → ((first_that_applies (xs ++ (r ∷ below)) otherwise).number ≡ r.number → (first_that_applies (xs ++ (r ∷ below)) otherwise).side ≡ r.side
          → (r.applies ≡ true) × NoneApplies xs)
          → (first_that_applies (x ∷ (xs ++ (r ∷ below))) otherwise).number ≡ r.number
          → (first_that_applies (x ∷ (xs ++ (r ∷ below))) otherwise).side ≡ r.side → (r.applies ≡ true) × ((x.applies ≡ false) × NoneApplies xs)
      go true t later e f = absurd (d.higher.0 (rw t at e) (rw t at f))
      go false t later e f = let found = later (rw t at e) (rw t at f) in (found.0, (t, found.1))

  pub by_table : (table : List RefusalRow) (values : Values) → well_formed table ≡ true → values ≡ first_that_applies table otherwise
      → ByTable table otherwise values
  by_table table values w v =
      record {
        first = v;
        exactly = λ above below r e.
            subst (λ (x : Values). GivenExactly x above r) (sym (v ∙ ap (λ (t : List RefusalRow). first_that_applies t otherwise) e))
            record {
              when = given_when above below r;
              only = given_only above below r (parted above below r (sym (ap well_formed e) ∙ w));
            };
      }
