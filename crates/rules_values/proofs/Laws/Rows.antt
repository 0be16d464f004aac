-- Rules 401 to 424: where they are broken.
--     values_ok     each of them at elements of the certificate, in their order
-- Assumes nothing.
use mathlib.Core.Path.{◌≡◌, refl, subst}
use mathlib.Core.List.{List}
use mathlib.Core.Bool.{Bool}
use Prim.Native.Nat.{ℕ, ◌<◌}
use native.Mathlib.Omega.{arith}
use Rattle.std.specs.Prelude.{Option}
use Rattle.rules_values.specs.Identifiers.{key_identifier_rows}
use Rattle.rules_values.specs.Usage.{usage_rows}
use Rattle.rules_values.specs.Purposes.{purpose_rows}
use Rattle.rules_values.specs.Policies.{policy_rows}
use Rattle.rules_values.specs.Hosts.{host_rows}
use Rattle.rules_values.specs.Access.{access_rows}
use Rattle.rules_values.specs.Points.{full_names_in, point_rows}
use Rattle.rules_values.specs.Authority.{authority_rows}
use Rattle.rules_values.specs.Rules.{value_rows}
use Rattle.der.specs.Members.{members_in}
use Rattle.der.specs.declared.header.Head.{Head}
use Rattle.asn.specs.Grammar.{Form, fits}
use Rattle.asn.specs.Answers.{certificate_verdict}
use Rattle.asn.specs.Module.{object_identifier, sequence_of, value_of, judged, policy_information, general_name, access_description, distribution_point}
use Rattle.asn.specs.Module.{ext_key_usage, certificate_policies, general_names, authority_info_access, crl_distribution_points}
use Rattle.profiles.specs.declared.fields.Profile.{Profile}
use Rattle.certificate.specs.Slots.{slot_count}
use Rattle.certificate.specs.declared.key.KeyKind.{KeyKind}
use Rattle.certificate.specs.Standing.{Standing}
use Rattle.certificate.specs.declared.extensions.Extension.{Extension}
use Rattle.certificate.specs.Issuer.{Known}
use Rattle.facts.specs.Case.{case_in, standing_of}
use Rattle.facts.specs.Elements.{Element}
use Rattle.facts.proofs.Laws.Members.{AllElements, AllMembers, members_of_lem, listed_fit}
use Rattle.facts.proofs.Laws.Slots.{GoodOk, StandingOk, standing_ok}
use Rattle.forms.specs.Lists.{items_within}
use Rattle.forms.specs.Values.{where_good}
use Rattle.forms.specs.declared.nests.Nest.TheVariants.{Policy, Point}
use Rattle.forms.proofs.Laws.Lists.{items_in}
use Rattle.report.specs.Forms.{filter}
use Rattle.report.specs.Rows.{◌for◌⦂◌, broken_at}
use Rattle.report.proofs.Terms.Rows.{RowOk, RowsOk}
use Rattle.report.proofs.Terms.Rows.RowsOk.{no_rows, more_rows}
use Rattle.report.proofs.Laws.Order.{children_apart}
use Rattle.report.proofs.Laws.Rows.{none_ok, at_ok, each_ok, ok_join}
use Rattle.rules_values.proofs.Laws.Qualifiers.{qualifiers_of_lem, qualifiers_apart}
use Rattle.rules_values.proofs.Laws.FullNames.{full_names_of, full_names_apart}
use Rattle.std.specs.Prelude.{Ok}

-- where the value is not good, nothing breaks the rule
good_ok : (s : List ℕ) (k : ℕ) {ps : List ℕ} (rule : ℕ) (x : Standing) (f : Extension → Head → List Head) → StandingOk s k x
    → ((y : Extension) (v : Head) → GoodOk s k y v → RowOk (Element s) (rule for ps ⦂ f y v)) → RowOk (Element s) (rule for ps ⦂ where_good x f)
good_ok s k rule Standing.missing f o g = none_ok rule
good_ok s k rule (Standing.bad x) f o g = none_ok rule
good_ok s k rule (Standing.good x v) f o g = g x v o

module _ (s : List ℕ) (e : certificate_verdict s ≡ Ok tt) (known : Known) where
  abbrev standing : ℕ → Standing
  standing k = standing_of (case_in s known) k

  -- ---- by the rule's form

  module _ (k : ℕ) (l : k < slot_count) (m : 0 < k) where
    -- at the OCTET STRING
    at : {ps : List ℕ} (rule : ℕ) (bad : Head → Bool) → RowOk (Element s) (rule for ps ⦂ where_good (standing k) (λ x v. broken_at (bad v) x.value))
    at rule bad =
        good_ok s k rule (standing k) (λ x v. broken_at (bad v) x.value) (standing_ok s e k l known m)
        (λ x v g. at_ok rule (bad v) x.value (λ u. g.there.value))

    -- "each" over the members of a SEQUENCE OF
    module _ (f : Form) (type : value_of k ≡ sequence_of f) where
      whole : (x : Extension) (v : Head) → GoodOk s k x v → fits (sequence_of f) s v ≡ Ok tt
      whole x v g = subst (λ (y : Form). fits y s v ≡ Ok tt) type g.fit

      items : (x : Extension) (v : Head) → GoodOk s k x v → AllMembers s v
      items x v g = members_of_lem 0x30 _ s v refl refl (whole x v g) g.element

      each : {ps : List ℕ} (rule : ℕ) (bad : Head → Bool) → RowOk (Element s) (rule for ps ⦂ where_good (standing k) (λ x v. filter bad (members_in s v)))
      each rule bad =
          good_ok s k rule (standing k) (λ x v. filter bad (members_in s v)) (standing_ok s e k l known m)
          (λ x v g. each_ok rule bad (children_apart s v.end v.body) (items x v g))

  -- "each" over the qualifiers of the policies
  qualifier : (x : Extension) (v : Head) → GoodOk s 6 x v → AllElements s (items_within Policy s v.body v.end)
  unfolding value_of judged certificate_policies
  qualifier x v g h i =
      let q = items_in Policy s v.body v.end h i in
      let fit = listed_fit policy_information s v (whole 6 (omega arith) (omega arith) policy_information refl x v g) q.0 q.1 in
      qualifiers_of_lem s q.0 fit (items 6 (omega arith) (omega arith) policy_information refl x v g q.0 q.1) h q.2

  -- "each" over the names of the points' full names
  full_name : (x : Extension) (v : Head) → GoodOk s 9 x v → AllElements s (full_names_in s v)
  unfolding value_of judged crl_distribution_points distribution_point
  full_name x v g h i =
      let q = items_in Point s v.body v.end h i in
      let points = items 9 (omega arith) (omega arith) distribution_point refl x v g in
      let fit = listed_fit distribution_point s v (whole 9 (omega arith) (omega arith) distribution_point refl x v g) q.0 q.1 in
      full_names_of s q.0 (members_of_lem 0x30 _ s q.0 refl refl fit (points q.0 q.1)) h q.2

  -- ---- rules 401 to 424

  module _ (p : Profile) where
    identifiers_ok : (key : Option (List ℕ)) → RowsOk (Element s) (key_identifier_rows s key (standing 1) (standing 2) (standing 3))
    unfolding key_identifier_rows
    identifiers_ok key =
        more_rows (at 1 (omega arith) (omega arith) 401 _) (more_rows (at 2 (omega arith) (omega arith) 402 _) (more_rows (at 3 (omega arith) (omega arith) 403 _) no_rows))

    usage_ok : (kind : KeyKind) → RowsOk (Element s) (usage_rows p s kind (standing 4))
    unfolding usage_rows
    usage_ok kind = more_rows (at 4 (omega arith) (omega arith) 404 _) (more_rows (at 4 (omega arith) (omega arith) 405 _) no_rows)

    purposes_ok : RowsOk (Element s) (purpose_rows p s (standing 5))
    unfolding purpose_rows value_of judged ext_key_usage
    purposes_ok = more_rows (at 5 (omega arith) (omega arith) 407 _) (more_rows (each 5 (omega arith) (omega arith) object_identifier refl 408 _) no_rows)

    policies_ok : RowsOk (Element s) (policy_rows p s (standing 6))
    unfolding policy_rows
    policies_ok =
        more_rows (at 6 (omega arith) (omega arith) 409 _)
        (more_rows (at 6 (omega arith) (omega arith) 410 _)
        (more_rows (good_ok s 6 411 (standing 6) _ (standing_ok s e 6 (omega arith) known (omega arith))
        (λ x v g. each_ok 411 _ (qualifiers_apart s v.end v.body) (qualifier x v g)))
        no_rows))

    hosts_ok : RowsOk (Element s) (host_rows s (standing 7))
    unfolding host_rows value_of judged general_names
    hosts_ok =
        more_rows (each 7 (omega arith) (omega arith) general_name refl 412 _)
        (more_rows (each 7 (omega arith) (omega arith) general_name refl 413 _) (more_rows (each 7 (omega arith) (omega arith) general_name refl 414 _) no_rows))

    access_ok : RowsOk (Element s) (access_rows s (standing 8))
    unfolding access_rows value_of judged authority_info_access
    access_ok =
        more_rows (at 8 (omega arith) (omega arith) 415 _)
        (more_rows (at 8 (omega arith) (omega arith) 416 _) (more_rows (each 8 (omega arith) (omega arith) access_description refl 417 _) no_rows))

    points_ok : RowsOk (Element s) (point_rows s (standing 9))
    unfolding point_rows value_of judged crl_distribution_points
    points_ok = more_rows (at 9 (omega arith) (omega arith) 418 _) (more_rows (each 9 (omega arith) (omega arith) distribution_point refl 419 _) no_rows)

    authority_ok : RowsOk (Element s) (authority_rows s (standing 2) (standing 4) (standing 8) (standing 9))
    unfolding authority_rows value_of judged authority_info_access
    authority_ok =
        more_rows (at 2 (omega arith) (omega arith) 421 _)
        (more_rows (at 4 (omega arith) (omega arith) 422 _)
        (more_rows (each 8 (omega arith) (omega arith) access_description refl 423 _)
        (more_rows (good_ok s 9 424 (standing 9) _ (standing_ok s e 9 (omega arith) known (omega arith))
        (λ x v g. each_ok 424 _ (full_names_apart s v.end v.body) (full_name x v g)))
        no_rows)))

    pub values_ok : RowsOk (Element s) (value_rows p (case_in s known))
    unfolding value_rows
    values_ok =
        ok_join (identifiers_ok _)
        (ok_join (usage_ok _) (ok_join purposes_ok (ok_join policies_ok (ok_join hosts_ok (ok_join access_ok (ok_join points_ok authority_ok))))))
