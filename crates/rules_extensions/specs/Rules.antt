-- Rules 301 to 363 together.
use Rattle.std.specs.Prelude.{List, ◌++◌}
use Rattle.profiles.specs.declared.fields.Profile.{Profile}
use Rattle.facts.specs.Case.{Case}
use Rattle.report.specs.Rows.{Row}
use Rattle.rules_extensions.specs.Slots.{list_place, rows_over}
use Rattle.rules_extensions.specs.Identifiers.{identifier_rows}
use Rattle.rules_extensions.specs.declared.slots.Question.TheVariants.{Missing, Criticality, Value}

unfoldable pub extension_rows : Profile → Case → List Row
extension_rows p f =
    rows_over Missing p (list_place f.fields) f.table
    ++ (rows_over Criticality p (list_place f.fields) f.table
    ++ (rows_over Value p (list_place f.fields) f.table ++ identifier_rows p f.octets f.fields.extensions f.seen))
