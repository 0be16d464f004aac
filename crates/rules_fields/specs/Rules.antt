-- Rules 101 to 111 together.
use Rattle.std.specs.Prelude.{List, ◌++◌}
use Rattle.profiles.specs.declared.fields.Profile.{Profile}
use Rattle.facts.specs.Case.{Case}
use Rattle.report.specs.Rows.{Row}
use Rattle.rules_fields.specs.Version.{version_rows}
use Rattle.rules_fields.specs.Algorithms.{signature_rows}
use Rattle.rules_fields.specs.Period.{validity_rows}

unfoldable pub field_rows : Profile → Case → List Row
field_rows p f = version_rows f.octets f.fields ++ (signature_rows f.octets f.fields f.issuer.name ++ validity_rows p f.fields)
