-- What rules 361 to 363 take for a repeat.
--     identifiers_same, extensions_same      of an extension in the list it is what document 01 says: "an identifier seen before"
-- Assumes nothing.
use mathlib.Core.Path.{◌≡◌, refl, sym, ap, ◌∙◌}
use mathlib.Core.List.Memᴰ
use mathlib.Core.List.{List, [], ◌∷◌, ◌++◌}
use mathlib.Core.Logic.{⊎_elim}
use mathlib.Core.Bool.{Bool, true, false, cond, not, ◌&&◌, ◌||◌}
use Prim.Native.Nat.{ℕ}
use Rattle.rules_extensions.specs.Slots.{list_place, rows_over}
use Rattle.rules_extensions.specs.Identifiers.{identifier_rows}
use Rattle.rules_extensions.specs.Rules.{extension_rows}
use Rattle.rules_extensions.specs.declared.slots.Question.TheVariants.{Missing, Criticality, Value}
use Rattle.der.specs.Elements.{any_of}
use Rattle.der.specs.Members.{members_in}
use Rattle.der.specs.declared.header.Head.{Head}
use Rattle.profiles.specs.Extensions.{mark_of, is_unwanted, is_out_of_place}
use Rattle.profiles.specs.Judged.{S, O, every_profile}
use Rattle.profiles.specs.declared.fields.Profile.{Profile}
use Rattle.certificate.specs.Extensions.{extension_of, slot_of, is_period, seen_before}
use Rattle.certificate.specs.Fields.{certificate_of}
use Rattle.certificate.specs.Issuer.{Known}
use Rattle.certificate.specs.Slots.{has_repeats}
use Rattle.facts.specs.Case.{seen_by, case_in}
use Rattle.facts.proofs.Laws.Case.{case_by}
use Rattle.report.specs.Forms.{filter}
use Rattle.report.specs.Rows.{Row, ◌for◌⦂◌}
use Rattle.forms.specs.Kinds.{unwanted_by, out_of_place_by}
use Rattle.report.specs.Order.{In}

-- where none of a list passes a test, each one fails it
none_passes : (test : Head → Bool) (hs : List Head) → any_of test hs ≡ false → (h : Head) → In h hs → test h ≡ false
unfolding any_of
none_passes test [] e h i = absurd (Memᴰ.not-nil i)
none_passes test (x ∷ xs) e h i = go (test x) refl e (none_passes test xs)
  where
    go : (b : Bool) → test x ≡ b → (b || any_of test xs) ≡ false → (any_of test xs ≡ false → (g : Head) → In g xs → test g ≡ false) → test h ≡ false
    go true t n ih = cc
    go false t n ih = ⊎_elim (λ (q : h ≡ x). ap test q ∙ t) (ih n h) (Memᴰ.cases_cons i)

repeat_seen :
    (s : List ℕ) (list h : Head) → In h (members_in s list) → seen_by s list (has_repeats s list) h ≡ seen_before s list.body h
unfolding has_repeats
repeat_seen s list h i = go (any_of seen (members_in s list)) refl
  where
    seen : Head → Bool
    seen = seen_before s list.body

    go : (b : Bool) → any_of seen (members_in s list) ≡ b → (b && seen h) ≡ seen h
    go true t = refl
    go false t = sym (none_passes seen (members_in s list) t h i)

-- two tests that agree on the items pick the same ones
filter_same : (f g : Head → Bool) (hs : List Head) → ((h : Head) → In h hs → f h ≡ g h) → filter f hs ≡ filter g hs
unfolding filter
filter_same f g [] e = refl
filter_same f g (h ∷ hs) e =
    let here = e h (Memᴰ.head refl) in
    let rest = filter_same f g hs (λ x i. e x (Memᴰ.tail i)) in
    λ j. cond (here j) (h ∷ rest j) (rest j)

pub identifiers_same : (p : Profile) (s : List ℕ) (list : Head)
    → identifier_rows p s list (seen_by s list (has_repeats s list)) ≡ identifier_rows p s list (seen_before s list.body)
unfolding identifier_rows
identifiers_same p s list =
    let asked : Head → Bool = seen_by s list (has_repeats s list) in
    let seen : Head → Bool = seen_before s list.body in
    let repeats = filter_same asked seen (members_in s list) (repeat_seen s list) in
    let unwanted = filter_same (unwanted_by p asked s) (unwanted_by p seen s) (members_in s list)
    (λ h i. ap (λ (b : Bool). is_unwanted (mark_of p (slot_of s h)) && (not (is_period s h) && not b)) (repeat_seen s list h i)) in
    let misplaced = filter_same (out_of_place_by p asked s) (out_of_place_by p seen s) (members_in s list)
    (λ h i. ap (λ (b : Bool). is_out_of_place (mark_of p (slot_of s h)) && ((extension_of s h).critical && not b)) (repeat_seen s list h i)) in
    λ j. 361 for every_profile ⦂ repeats j ∷ 362 for O ⦂ unwanted j ∷ 363 for S ⦂ misplaced j ∷ []

pub extensions_same : (p : Profile) (s : List ℕ) (k : Known)
    → extension_rows p (case_by s k (seen_by s (certificate_of s).extensions (has_repeats s (certificate_of s).extensions))) ≡ extension_rows p (case_in s k)
unfolding extension_rows
extensions_same p s k =
    let list = list_place (certificate_of s) in
    let table = (case_in s k).table in
    ap (λ (rows : List Row). rows_over Missing p list table ++ (rows_over Criticality p list table ++ (rows_over Value p list table ++ rows)))
    (identifiers_same p s (certificate_of s).extensions)
