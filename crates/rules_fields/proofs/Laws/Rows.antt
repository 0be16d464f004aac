-- Rules 101 to 111: where they are broken.
--     fields_ok     each of them at elements of the certificate, in their order
-- Assumes nothing.
use mathlib.Core.Path.{◌≡◌}
use mathlib.Core.List.{List}
use mathlib.Core.Bool.{Bool, true, false, cond}
use Prim.Native.Nat.{ℕ}
use lib.Dec.{eqb}
use Rattle.rules_fields.specs.Version.{version_place, version_rows}
use Rattle.rules_fields.specs.Algorithms.{signature_rows}
use Rattle.rules_fields.specs.Period.{validity_rows}
use Rattle.rules_fields.specs.Rules.{field_rows}
use Rattle.der.specs.declared.header.Head.{Head}
use Rattle.asn.specs.Answers.{certificate_verdict}
use Rattle.profiles.specs.declared.fields.Profile.{Profile}
use Rattle.certificate.specs.Fields.{certificate_of}
use Rattle.certificate.proofs.Laws.Named.{times_rise}
use Rattle.certificate.specs.Issuer.{Known}
use Rattle.facts.specs.Case.{case_in}
use Rattle.facts.specs.Elements.{Element}
use Rattle.facts.proofs.Laws.Fields.{field_elements}
use Rattle.report.specs.Rows.{◌for◌⦂◌, broken_at}
use Rattle.report.proofs.Terms.Rows.{RowOk, RowsOk}
use Rattle.report.proofs.Terms.Rows.RowsOk.{no_rows, more_rows}
use Rattle.report.proofs.Laws.Rows.{at_ok, twice_ok}
use Rattle.std.specs.Prelude.{Ok}

module _ (s : List ℕ) (e : certificate_verdict s ≡ Ok tt) where
  at : {ps : List ℕ} (rule : ℕ) (bad : Bool) {h : Head} → Element s h → RowOk (Element s) (rule for ps ⦂ broken_at bad h)
  at rule bad {h} k = at_ok rule bad h (λ t. k)

  version_element : Element s (version_place (certificate_of s).version (certificate_of s).tbs)
  version_element = go (eqb (certificate_of s).version.tag 0xA0)
    where
      go : (b : Bool) → Element s (cond b (certificate_of s).version (certificate_of s).tbs)
      go true = (field_elements s e).version
      go false = (field_elements s e).tbs

  pub fields_ok : (p : Profile) (k : Known) → RowsOk (Element s) (field_rows p (case_in s k))
  unfolding field_rows version_rows signature_rows validity_rows
  fields_ok p k =
      let f = field_elements s e in
      more_rows (at 101 _ version_element)
      (more_rows (at 102 _ f.serial)
      (more_rows (at 103 _ f.serial)
      (more_rows (at 104 _ f.serial)
      (more_rows (at 105 _ f.inner)
      (more_rows (at 106 _ f.outer)
      (more_rows (at 107 _ f.outer)
      (more_rows (at 108 _ f.issuer)
      (more_rows (twice_ok 109 _ _ _ _ (times_rise s e) f.before f.later)
      (more_rows (at 110 _ f.period)
      (more_rows (at 111 _ f.period) no_rows))))))))))
