-- Rules 201 to 208 together.
use Rattle.std.specs.Prelude.{List, ◌++◌}
use Rattle.rules_key.specs.Algorithm.{algorithm_rows}
use Rattle.rules_key.specs.Rsa.{rsa_rows}
use Rattle.profiles.specs.declared.fields.Profile.{Profile}
use Rattle.facts.specs.Case.{Case}
use Rattle.report.specs.Rows.{Row}

unfoldable pub key_rows : Profile → Case → List Row
key_rows p f = algorithm_rows p f.octets f.key ++ rsa_rows f.octets f.key
