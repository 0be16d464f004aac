-- Rules 401 to 424 together, with the extensions by their slots in document 01's table: 1 authority key id, 2 basic constraints, 3 subject key id, 4 key usage,
-- 5 extended key usage, 6 policies, 7 alternative name, 8 AIA, 9 CRL points.
use Rattle.std.specs.Prelude.{List, ◌++◌}
use Rattle.rules_values.specs.Identifiers.{key_identifier_rows}
use Rattle.rules_values.specs.Usage.{usage_rows}
use Rattle.rules_values.specs.Purposes.{purpose_rows}
use Rattle.rules_values.specs.Policies.{policy_rows}
use Rattle.rules_values.specs.Hosts.{host_rows}
use Rattle.rules_values.specs.Access.{access_rows}
use Rattle.rules_values.specs.Points.{point_rows}
use Rattle.rules_values.specs.Authority.{authority_rows}
use Rattle.profiles.specs.declared.fields.Profile.{Profile}
use Rattle.facts.specs.Case.{Case, standing_of}
use Rattle.report.specs.Rows.{Row}

unfoldable pub value_rows : Profile → Case → List Row
value_rows p f =
    key_identifier_rows f.octets f.issuer.key (standing_of f 1) (standing_of f 2) (standing_of f 3)
    ++ (usage_rows p f.octets f.key.kind (standing_of f 4)
    ++ (purpose_rows p f.octets (standing_of f 5)
    ++ (policy_rows p f.octets (standing_of f 6)
    ++ (host_rows f.octets (standing_of f 7)
    ++ (access_rows f.octets (standing_of f 8)
    ++ (point_rows f.octets (standing_of f 9)
    ++ authority_rows f.octets (standing_of f 2) (standing_of f 4) (standing_of f 8) (standing_of f 9)))))))
