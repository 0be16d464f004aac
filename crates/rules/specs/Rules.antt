-- One list of all rules, each with its number: 101 to 111, 112 to 122, 201 to 208, 301 to 363, 401 to 424.
use Rattle.std.specs.Prelude.{List, ◌++◌, ℕ}
use Rattle.profiles.specs.declared.fields.Profile.{Profile}
use Rattle.certificate.specs.Issuer.{Known, known_of}
use Rattle.facts.specs.Case.{Case, case_in}
use Rattle.report.specs.Rows.{Row, findings_of}
use Rattle.report.specs.declared.sink.Entry.{Entry}
use Rattle.rules_fields.specs.Rules.{field_rows}
use Rattle.rules_subject.specs.Rules.{subject_rows}
use Rattle.rules_key.specs.Rules.{key_rows}
use Rattle.rules_extensions.specs.Rules.{extension_rows}
use Rattle.rules_values.specs.Rules.{value_rows}

unfoldable pub all_rules : Profile → Case → List Row
all_rules p f = field_rows p f ++ (subject_rows p f ++ (key_rows p f ++ (extension_rows p f ++ value_rows p f)))

-- the rules of a certificate whose issuer is known, and what they find
abbrev pub rules_for : Profile → List ℕ → Known → List Row
rules_for p s k = all_rules p (case_in s k)

unfoldable pub findings_for : Profile → List ℕ → Known → List Entry
findings_for p s k = findings_of p (rules_for p s k)

-- of a certificate and its issuer's
unfoldable pub findings : Profile → List ℕ → List ℕ → List Entry
findings p s issuer = findings_for p s (known_of issuer)
