-- What is asked of an extension, by the code's entry for it.
--     missing_by                                  whether it is missing
--     puts_missing, puts_critical, puts_value     a question's rule for a slot
-- Assumes nothing.
use mathlib.Core.Path.{◌≡◌, refl, ap, subst, ◌∙◌}
use mathlib.Core.List.{[], ◌∷◌}
use mathlib.Core.Bool.{Bool, true, false, cond, not, ◌&&◌}
use Prim.Native.Nat.{ℕ, ◌+◌, ◌<◌}
use native.Mathlib.Omega.{arith}
use Rattle.der.specs.Elements.{is_empty}
use Rattle.der.specs.declared.header.Head.{Head}
use Rattle.profiles.specs.declared.fields.Profile.{Profile}
use Rattle.profiles.proofs.Laws.Slots.{missing_judged, criticality_judged, value_judged}
use Rattle.certificate.specs.Slots.{slot_count}
use Rattle.certificate.specs.Standing.{Standing, extension_by, standing_by}
use Rattle.certificate.specs.declared.slots.Slot.{Slot}
use Rattle.report.specs.Rows.{Row, ◌for◌⦂◌, ◌⦂◌, broken_at}
use Rattle.report.specs.Sinks.{SinkPuts}
use Rattle.report.specs.declared.sink.Sink.{Sink}
use Rattle.rules_extensions.specs.Slots.{is_missing, where_there, is_miscritical_at, rule340, row_at}
use Rattle.rules_extensions.specs.declared.slots.Question.TheVariants.{Missing, Criticality, Value}

module _ (v : Slot) where
  -- the standing of an entry by whether it is good, and whether its place is empty
  abbrev by : Bool → Bool → Standing
  by good empty = cond good (Standing.good (extension_by v) v.element) (cond empty Standing.missing (Standing.bad (extension_by v)))

  missing_is : (not v.good && is_empty v.place) ≡ is_missing (standing_by v)
  missing_is = go v.good (is_empty v.place)
    where
      go : (g e : Bool) → (not g && e) ≡ is_missing (by g e)
      go true e = refl
      go false true = refl
      go false false = refl

  pub missing_by : {none : Bool} → none ≡ is_empty v.place → (not v.good && none) ≡ is_missing (standing_by v)
  missing_by e = ap (λ (b : Bool). not v.good && b) e ∙ missing_is

  there_is : (bad : Bool → Bool)
      → broken_at (not (is_missing (standing_by v)) && bad v.critical) v.place ≡ where_there (standing_by v) (λ x. broken_at (bad x.critical) x.place)
  unfolding broken_at
  there_is bad = go v.good (is_empty v.place)
    where
      go : (g e : Bool) → broken_at (not (is_missing (by g e)) && bad v.critical) v.place ≡ where_there (by g e) (λ x. broken_at (bad x.critical) x.place)
      go true e = refl
      go false true = refl
      go false false = refl

  bad_is : broken_at (not (is_missing (standing_by v)) && not v.good) v.holder ≡ rule340 (standing_by v)
  unfolding broken_at
  bad_is = go v.good (is_empty v.place)
    where
      go : (g e : Bool) → broken_at (not (is_missing (by g e)) && not g) v.holder ≡ rule340 (by g e)
      go true e = refl
      go false true = refl
      go false false = refl

  -- ---- rules for slot k

  module _ (p : Profile) (list : Head) (k : ℕ) (l : k < slot_count) (none : Bool) (e : none ≡ is_missing (standing_by v)) {a b : Sink} where
    pub puts_missing : SinkPuts p ((300 + k) ⦂ broken_at none list ∷ []) a b → SinkPuts p (row_at Missing p list k (standing_by v) ∷ []) a b
    puts_missing =
        subst (λ (r : Row). SinkPuts p (r ∷ []) a b) (λ j. (300 + k) for missing_judged k (omega (arith, l)) j ⦂ broken_at (e j) list)

    pub puts_critical :
        SinkPuts p ((320 + k) ⦂ broken_at (not none && is_miscritical_at p k v.critical) v.place ∷ []) a b
        → SinkPuts p (row_at Criticality p list k (standing_by v) ∷ []) a b
    puts_critical =
        let broken = (λ j. broken_at (not (e j) && is_miscritical_at p k v.critical) v.place) ∙ there_is (is_miscritical_at p k) in
        subst (λ (r : Row). SinkPuts p (r ∷ []) a b) (λ j. (320 + k) for criticality_judged k (omega (arith, l)) j ⦂ broken j)

    pub puts_value :
        SinkPuts p ((340 + k) ⦂ broken_at (not none && not v.good) v.holder ∷ []) a b → SinkPuts p (row_at Value p list k (standing_by v) ∷ []) a b
    puts_value =
        let broken = (λ j. broken_at (not (e j) && not v.good) v.holder) ∙ bad_is in
        subst (λ (r : Row). SinkPuts p (r ∷ []) a b) (λ j. (340 + k) for value_judged k (omega (arith, l)) j ⦂ broken j)
