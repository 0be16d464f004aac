-- What is said of every report. Nothing here names a rule.
--     rules_ascend          the rules' numbers, by one computed test
--     findings_ordered      entries rise by rule, then start, so no two are equal
--     findings_elements     each is at an element of the certificate
--     findings_inside       so each lies in it
--     findings_levelled     each has its rule's level
--     finding_in            an entry is there exactly if its rule is judged and is broken there
--     none_broken           there is none exactly if no rule that is judged is broken
--     found_by_facts        what the facts that are read give
-- Assumes nothing.
use mathlib.Core.Path.{◌≡◌, refl, ap, ◌∙◌}
use mathlib.Core.List.{List, [], ◌++◌}
use mathlib.Core.Bool.{true}
use mathlib.Core.Logic.{◌↔◌}
use Prim.Native.Nat.{ℕ}
use lib.ListN.{length}
use Rattle.rules.specs.Rules.{all_rules, rules_for, findings_for, findings}
use Rattle.der.specs.declared.header.Head.{Head}
use Rattle.asn.specs.Answers.{certificate_verdict}
use Rattle.profiles.specs.Judged.{rule_limit, judged_by}
use Rattle.profiles.specs.declared.fields.Profile.{Profile}
use Rattle.certificate.specs.Issuer.{Known, known_of}
use Rattle.certificate.specs.Fields.{certificate_of}
use Rattle.certificate.specs.Slots.{numbers_from, has_repeats}
use Rattle.certificate.proofs.Laws.Inside.{between_spans}
use Rattle.facts.specs.Case.{Case, facts_of, seen_by, case_of, case_in}
use Rattle.facts.specs.Elements.{Element}
use Rattle.facts.specs.declared.Facts.{Facts}
use Rattle.facts.proofs.Laws.Case.{case_by, case_is}
use Rattle.facts.proofs.Laws.Inside.{element_inside}
use Rattle.report.specs.Entries.{entry_at}
use Rattle.report.specs.Order.{In, Ordered, EntriesInside, EntriesLevelled}
use Rattle.report.specs.Rows.{Row, findings_of, ascend}
use Rattle.report.proofs.Terms.Rows.{RowsOk}
use Rattle.report.specs.declared.sink.Entry.{Entry}
use Rattle.report.proofs.Laws.Rows.{ok_join, rows_ordered, rows_at, rows_inside, rows_levelled, InRows, rows_in, none_broken as none_broken_of}
use Rattle.rules_fields.specs.Version.{version_rows}
use Rattle.rules_fields.specs.Algorithms.{signature_rows}
use Rattle.rules_fields.specs.Period.{validity_rows}
use Rattle.rules_fields.specs.Rules.{field_rows}
use Rattle.rules_fields.proofs.Laws.Rows.{fields_ok}
use Rattle.rules_subject.specs.Attributes.{country_rows, organization_rows}
use Rattle.rules_subject.specs.CommonName.{name_rows}
use Rattle.rules_subject.specs.Rules.{subject_rows}
use Rattle.rules_subject.proofs.Laws.Rows.{subject_ok}
use Rattle.rules_key.specs.Algorithm.{algorithm_rows}
use Rattle.rules_key.specs.Rsa.{rsa_rows}
use Rattle.rules_key.specs.Rules.{key_rows}
use Rattle.rules_key.proofs.Laws.Rows.{key_ok}
use Rattle.rules_extensions.specs.Slots.{rows_over}
use Rattle.rules_extensions.specs.Identifiers.{identifier_rows}
use Rattle.rules_extensions.specs.Rules.{extension_rows}
use Rattle.rules_extensions.proofs.Laws.Repeats.{extensions_same}
use Rattle.rules_extensions.proofs.Laws.Rows.{extensions_ok}
use Rattle.rules_values.specs.Identifiers.{key_identifier_rows}
use Rattle.rules_values.specs.Usage.{usage_rows}
use Rattle.rules_values.specs.Purposes.{purpose_rows}
use Rattle.rules_values.specs.Policies.{policy_rows}
use Rattle.rules_values.specs.Hosts.{host_rows}
use Rattle.rules_values.specs.Access.{access_rows}
use Rattle.rules_values.specs.Points.{point_rows}
use Rattle.rules_values.specs.Authority.{authority_rows}
use Rattle.rules_values.specs.Rules.{value_rows}
use Rattle.rules_values.proofs.Laws.Rows.{values_ok}
use Rattle.std.specs.Prelude.{Ok}

rules_ascend : (p : Profile) (f : Case) → ascend 101 rule_limit (all_rules p f) ≡ true
unfolding
    ascend all_rules field_rows version_rows signature_rows validity_rows subject_rows country_rows organization_rows name_rows key_rows algorithm_rows
    rsa_rows extension_rows rows_over numbers_from identifier_rows value_rows key_identifier_rows usage_rows purpose_rows policy_rows host_rows access_rows
    point_rows authority_rows
rules_ascend p f = refl

module _ (p : Profile) (s : List ℕ) (k : Known) where
  rules_ok : certificate_verdict s ≡ Ok tt → RowsOk (Element s) (rules_for p s k)
  unfolding all_rules
  rules_ok e =
      ok_join (fields_ok s e p k) (ok_join (subject_ok s e p k) (ok_join (key_ok s e p k) (ok_join (extensions_ok s e p k) (values_ok s e k p))))

  known_ordered : certificate_verdict s ≡ Ok tt → Ordered 101 rule_limit (findings_for p s k)
  unfolding findings_for
  known_ordered e = rows_ordered p 101 rule_limit (rules_ascend p (case_in s k)) (rules_ok e)

  known_elements : certificate_verdict s ≡ Ok tt → (e : Entry) → In e (findings_for p s k) → (h : Head) × Element s h × (e.place ≡ (entry_at 0 h).place)
  unfolding findings_for
  known_elements v = rows_at p (rules_ok v)

  known_inside : certificate_verdict s ≡ Ok tt → EntriesInside (findings_for p s k) (length s)
  unfolding findings_for
  known_inside e = rows_inside p (length s) (λ h m. let i = element_inside s m in (between_spans i, i.ends)) (rules_ok e)

  pub finding_in : (e : Entry) → In e (findings_for p s k) ↔ InRows p (rules_for p s k) e
  unfolding findings_for
  finding_in = rows_in p (rules_for p s k)

  pub none_broken : (findings_for p s k ≡ []) ↔ ((r : Row) → In r (rules_for p s k) → judged_by p r.profiles ≡ true → r.broken ≡ [])
  unfolding findings_for
  none_broken = none_broken_of p (rules_for p s k)

module _ (p : Profile) (s issuer : List ℕ) where
  pub findings_ordered : certificate_verdict s ≡ Ok tt → Ordered 101 rule_limit (findings p s issuer)
  unfolding findings
  findings_ordered e = known_ordered p s (known_of issuer) e

  pub findings_elements : certificate_verdict s ≡ Ok tt → (e : Entry) → In e (findings p s issuer) → (h : Head) × Element s h × (e.place ≡ (entry_at 0 h).place)
  unfolding findings
  findings_elements e = known_elements p s (known_of issuer) e

  pub findings_inside : certificate_verdict s ≡ Ok tt → EntriesInside (findings p s issuer) (length s)
  unfolding findings
  findings_inside e = known_inside p s (known_of issuer) e

  pub findings_levelled : EntriesLevelled (findings p s issuer)
  unfolding findings findings_for
  findings_levelled = rows_levelled p (rules_for p s (known_of issuer))

  -- how repeats are asked makes no difference
  asked_same : (k : Known)
      → all_rules p (case_by s k (seen_by s (certificate_of s).extensions (has_repeats s (certificate_of s).extensions))) ≡ all_rules p (case_in s k)
  unfolding all_rules field_rows subject_rows key_rows value_rows
  asked_same k =
      let c = case_in s k in
      ap (λ (rows : List Row). field_rows p c ++ (subject_rows p c ++ (key_rows p c ++ (rows ++ value_rows p c)))) (extensions_same p s k)

  pub found_by_facts : (f : Facts) → f ≡ facts_of s issuer → findings_of p (all_rules p (case_of s f issuer)) ≡ findings p s issuer
  unfolding findings findings_for
  found_by_facts f e =
      (λ i. findings_of p (all_rules p (case_of s (e i) issuer)))
      ∙ ap (λ (c : Case). findings_of p (all_rules p c)) (case_is s issuer)
      ∙ ap (findings_of p) (asked_same (known_of issuer))
