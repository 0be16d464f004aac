-- Rules 412 to 414 (document 01, "Rules on extensions"; document 02, CR 1). Slot 7 is the subject alternative name.
use Rattle.std.specs.Prelude.{List, [], ◌∷◌, ℕ}
use Rattle.der.specs.declared.header.Head.{Head}
use Rattle.certificate.specs.Standing.{Standing}
use Rattle.forms.specs.Values.{where_good}
use Rattle.der.specs.Members.{members_in}
use Rattle.hosts.specs.Hosts.{has_underscore, no_host}
use Rattle.forms.specs.Kinds.{is_no_dns_name}
use Rattle.report.specs.Forms.{filter}
use Rattle.profiles.specs.Judged.{server_and_responder, server_and_subordinate}
use Rattle.report.specs.Rows.{Row, ◌for◌⦂◌}

-- 412 "each name not a dNSName"
abbrev pub rule412 : List ℕ → Standing → List Head
rule412 s e = where_good e (λ x v. filter is_no_dns_name (members_in s v))

-- 413 "each dNSName with an underscore"
abbrev pub rule413 : List ℕ → Standing → List Head
rule413 s e = where_good e (λ x v. filter (has_underscore s) (members_in s v))

-- 414 "each dNSName not of two or more labels of 1 to 63 letters, digits, hyphens (underscore passes here), no hyphen at either end of a label, at
-- most 253 octets"
abbrev pub rule414 : List ℕ → Standing → List Head
rule414 s e = where_good e (λ x v. filter (no_host s) (members_in s v))

unfoldable pub host_rows : List ℕ → Standing → List Row
host_rows s e =
    412 for server_and_responder ⦂ rule412 s e
    ∷ 413 for server_and_subordinate ⦂ rule413 s e
    ∷ 414 for server_and_responder ⦂ rule414 s e
    ∷ []
