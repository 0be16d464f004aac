-- Rules 112 to 122 together. Slot 7 is the subject alternative name.
use Rattle.std.specs.Prelude.{List, ◌++◌}
use Rattle.profiles.specs.declared.fields.Profile.{Profile}
use Rattle.facts.specs.Case.{Case, standing_of}
use Rattle.report.specs.Rows.{Row}
use Rattle.rules_subject.specs.Attributes.{country_rows, organization_rows}
use Rattle.rules_subject.specs.CommonName.{name_rows}

unfoldable pub subject_rows : Profile → Case → List Row
subject_rows p f =
    country_rows p f.octets f.fields.subject
    ++ (organization_rows p f.octets f.fields.subject ++ name_rows f.octets f.fields.subject (standing_of f 7))
