-- Rules 301 to 363: where they are broken.
--     extensions_ok     each of them at elements of the certificate, in their order
-- Assumes nothing.
use mathlib.Core.Path.{◌≡◌}
use mathlib.Core.List.{List, [], ◌∷◌}
use mathlib.Core.Bool.{Bool, true}
use Prim.Native.Nat.{ℕ}
use Rattle.rules_extensions.specs.Slots.{list_place, row_at, rows_over}
use Rattle.rules_extensions.specs.Identifiers.{identifier_rows}
use Rattle.rules_extensions.specs.Rules.{extension_rows}
use Rattle.rules_extensions.specs.declared.slots.Question.{Question}
use Rattle.rules_extensions.specs.declared.slots.Question.TheVariants.{Missing, Criticality, Value}
use Rattle.der.specs.Members.{members_in}
use Rattle.der.specs.declared.header.Head.{Head}
use Rattle.asn.specs.Answers.{certificate_verdict}
use Rattle.profiles.specs.declared.fields.Profile.{Profile}
use Rattle.certificate.specs.Fields.{certificate_of}
use Rattle.certificate.specs.Issuer.{Known}
use Rattle.certificate.specs.Standing.{Standing}
use Rattle.facts.specs.Case.{case_in, standing_of}
use Rattle.facts.specs.Elements.{Element}
use Rattle.facts.proofs.Laws.Slots.{in_list, list_place_lem, StandingOk, standing_ok}
use Rattle.report.specs.Forms.{filter}
use Rattle.report.specs.Rows.{◌for◌⦂◌, broken_at}
use Rattle.report.proofs.Terms.Rows.{RowOk, RowsOk}
use Rattle.report.proofs.Terms.Rows.RowsOk.{no_rows, more_rows}
use Rattle.report.proofs.Laws.Order.{children_apart}
use Rattle.report.proofs.Laws.Rows.{none_ok, at_ok, each_ok, ok_join}
use Rattle.rules_extensions.proofs.Laws.Slots.{rows_from, slots_ok}
use Rattle.std.specs.Prelude.{Ok}

module _ (s : List ℕ) (e : certificate_verdict s ≡ Ok tt) (p : Profile) (known : Known) where
  -- ---- slots

  sole_ok : {ps : List ℕ} (rule : ℕ) (h : Head) → Element s h → RowOk (Element s) (rule for ps ⦂ (h ∷ []))
  unfolding broken_at
  sole_ok rule h k = at_ok rule true h (λ t. k)

  by_standing : (question : Question) (k : ℕ) (x : Standing) → StandingOk s k x → RowOk (Element s) (row_at question p (list_place (certificate_of s)) k x)
  by_standing Missing k x o = at_ok _ _ _ (λ t. list_place_lem s e)
  by_standing Criticality k Standing.missing o = none_ok _
  by_standing Criticality k (Standing.bad x) o = at_ok _ _ _ (λ t. o.place)
  by_standing Criticality k (Standing.good x v) o = at_ok _ _ _ (λ t. o.there.place)
  by_standing Value k Standing.missing o = none_ok _
  by_standing Value k (Standing.bad x) o = sole_ok _ _ o.value
  by_standing Value k (Standing.good x v) o = none_ok _

  over_ok : (question : Question) → RowsOk (Element s) (rows_over question p (list_place (certificate_of s)) (case_in s known).table)
  unfolding rows_over rows_from
  over_ok question = slots_ok _ (λ k m l. by_standing question k (standing_of (case_in s known) k) (standing_ok s e k l known m))

  -- ---- identifiers

  each : {ps : List ℕ} (rule : ℕ) (bad : Head → Bool) → RowOk (Element s) (rule for ps ⦂ filter bad (members_in s (certificate_of s).extensions))
  each rule bad = each_ok rule bad (children_apart s _ _) (in_list s e)

  identifiers_ok : RowsOk (Element s) (identifier_rows p s (certificate_of s).extensions (case_in s known).seen)
  unfolding identifier_rows
  identifiers_ok = more_rows (each 361 _) (more_rows (each 362 _) (more_rows (each 363 _) no_rows))

  pub extensions_ok : RowsOk (Element s) (extension_rows p (case_in s known))
  unfolding extension_rows
  extensions_ok = ok_join (over_ok Missing) (ok_join (over_ok Criticality) (ok_join (over_ok Value) identifiers_ok))
