-- Rules 112 to 122: where they are broken.
--     subject_ok     each of them at elements of the certificate, in their order
-- A name is a SEQUENCE OF SET OF SEQUENCE by the grammar. Assumes nothing.
use Rattle.report.specs.Rows.{◌for◌⦂◌}
use mathlib.Core.Path.{◌≡◌, refl}
use mathlib.Core.List.{List}
use mathlib.Core.Bool.{Bool, true, not}
use Prim.Native.Nat.{ℕ}
use borrow.Author.Tests.{not-true}
use Rattle.rules_subject.specs.Attributes.{country_rows, organization_rows}
use Rattle.rules_subject.specs.CommonName.{first_common_name, is_unnamed, rule120, name_rows}
use Rattle.rules_subject.specs.Rules.{subject_rows}
use Rattle.octets.proofs.Laws.Tests.{and_l}
use Rattle.der.specs.Contents.{contents_of}
use Rattle.der.specs.Elements.{is_empty}
use Rattle.der.specs.Members.{members_in}
use Rattle.der.specs.declared.header.Head.{Head}
use Rattle.der.proofs.Laws.Searching.{first_among}
use Rattle.asn.specs.Grammar.{fits}
use Rattle.asn.specs.Answers.{certificate_verdict}
use Rattle.asn.specs.Module.{name, relative_distinguished_name}
use Rattle.asn.proofs.Laws.Fields.{parts_fit}
use Rattle.profiles.specs.Fields.{common_name}
use Rattle.profiles.specs.declared.fields.Profile.{Profile}
use Rattle.certificate.specs.Fields.{certificate_of}
use Rattle.certificate.specs.Issuer.{Known}
use Rattle.certificate.specs.Standing.{Standing}
use Rattle.certificate.proofs.Laws.Named.{named}
use Rattle.subjects.specs.Types.{attribute_value}
use Rattle.hosts.specs.Names.{some_named}
use Rattle.facts.specs.Case.{case_in, standing_of}
use Rattle.facts.specs.Elements.{Element}
use Rattle.facts.proofs.Laws.Members.{AllElements, AllMembers, many_fit, members_of_lem}
use Rattle.facts.proofs.Laws.Fields.{field_elements}
use Rattle.forms.specs.Kinds.{has_arc}
use Rattle.forms.specs.Lists.{attributes_in}
use Rattle.forms.specs.declared.nests.Nest.TheVariants.{Set}
use Rattle.forms.proofs.Laws.Lists.{items_in, sets_apart}
use Rattle.report.specs.Forms.{filter, ones_of}
use Rattle.report.specs.Order.{In}
use Rattle.report.proofs.Terms.Items.{Apart}
use Rattle.report.proofs.Terms.Rows.{RowOk, RowsOk}
use Rattle.report.proofs.Terms.Rows.RowsOk.{no_rows, more_rows}
use Rattle.report.proofs.Laws.Order.{children_apart}
use Rattle.report.proofs.Laws.Rows.{none_ok, at_ok, each_ok, one_ok}
use Rattle.std.specs.Prelude.{Ok}

module _ (s : List ℕ) (e : certificate_verdict s ≡ Ok tt) where
  abbrev subject : Head
  subject = (certificate_of s).subject

  -- ---- sets, and attributes in them

  subject_fits : fits name s subject ≡ Ok tt
  subject_fits = rw (named s e).subject (named s e).fields.subject_fits

  in_name : AllMembers s subject
  unfolding name
  in_name = members_of_lem 0x30 _ s _ refl refl subject_fits (field_elements s e).subject

  set_fits : (h : Head) → In h (members_in s subject) → fits relative_distinguished_name s h ≡ Ok tt
  unfolding name
  set_fits = many_fit relative_distinguished_name s subject.at (members_in s subject) (parts_fit 0x30 _ s subject subject_fits).1

  in_set : (x : Head) → In x (members_in s subject) → AllMembers s x
  unfolding relative_distinguished_name
  in_set x i = members_of_lem 0x31 _ s x refl refl (set_fits x i) (in_name x i)

  attribute : AllElements s (attributes_in s subject)
  attribute h i = let m = items_in Set s subject.body subject.end h i in in_set m.0 m.1 h m.2

  attributes_apart : Apart (attributes_in s subject)
  attributes_apart = sets_apart s subject.end subject.body

  -- ---- rules 112 to 122

  each : {ps : List ℕ} (rule : ℕ) (bad : Head → Bool) → RowOk (Element s) (rule for ps ⦂ filter bad (attributes_in s subject))
  each rule bad = each_ok rule bad attributes_apart attribute

  one : {ps : List ℕ} (rule : ℕ) (is_x : Head → Bool) → RowOk (Element s) (rule for ps ⦂ ones_of subject (filter is_x (attributes_in s subject)))
  one rule is_x = one_ok rule is_x subject attributes_apart (field_elements s e).subject attribute

  abbrev cn : Head
  cn = first_common_name s subject

  -- 120 is not judged without a CN
  cn_element : (alternative : Head) → is_unnamed s cn alternative ≡ true → Element s cn
  unfolding is_unnamed
  cn_element alternative t =
      let unnamed = not (some_named s (contents_of s (attribute_value s cn)) (members_in s alternative)) in
      let some = not-true (is_empty cn) (and_l (not (is_empty cn)) unnamed t) in
      attribute cn (first_among (has_arc s common_name) subject.end (attributes_in s subject) some)

  cn_ok : {ps : List ℕ} (x : Standing) → RowOk (Element s) (120 for ps ⦂ rule120 s subject x)
  cn_ok Standing.missing = none_ok 120
  cn_ok (Standing.bad x) = none_ok 120
  cn_ok (Standing.good x v) = at_ok 120 (is_unnamed s cn v) cn (cn_element v)

  pub subject_ok : (p : Profile) (k : Known) → RowsOk (Element s) (subject_rows p (case_in s k))
  unfolding subject_rows country_rows organization_rows name_rows
  subject_ok p k =
      more_rows (each 112 _)
      (more_rows (one 113 _)
      (more_rows (one 114 _)
      (more_rows (each 115 _)
      (more_rows (one 116 _)
      (more_rows (each 117 _)
      (more_rows (one 118 _)
      (more_rows (each 119 _)
      (more_rows (cn_ok (standing_of (case_in s k) 7))
      (more_rows (each_ok 121 _ (children_apart s subject.end subject.body) in_name)
      (more_rows (each 122 _) no_rows))))))))))
