-- Rules 404 and 405 (document 01, "Rules on extensions"; document 02, CR 1). Slot 4 is key usage.
use Rattle.std.specs.Prelude.{not, List, [], ◌∷◌, ℕ}
use Rattle.der.specs.declared.header.Head.{Head}
use Rattle.certificate.specs.Standing.{Standing}
use Rattle.forms.specs.Values.{where_good}
use Rattle.profiles.specs.Judged.{server_and_responder}
use Rattle.profiles.specs.Values.{digital_signature, usage_with_rsa, usage_with_curve}
use Rattle.profiles.specs.declared.fields.Profile.{Profile}
use Rattle.certificate.specs.declared.key.KeyKind.{KeyKind}
use Rattle.certificate.specs.declared.key.KeyKind.TheVariants.{Rsa, EllipticCurve, Other}
use Rattle.usages.specs.Usage.{bit_at, usage_of, other_bits}
use Rattle.report.specs.Rows.{Row, ◌for◌⦂◌, broken_at}

-- 404 "digitalSignature set"
abbrev pub rule404 : List ℕ → Standing → List Head
rule404 s e = where_good e (λ x v. broken_at (not (bit_at (usage_of s v) digital_signature)) x.value)

-- "keyEncipherment with RSA, keyAgreement with EC (S); none (O or another key)"
abbrev pub allowed_usage : Profile → KeyKind → List ℕ
allowed_usage p Rsa = usage_with_rsa p
allowed_usage p EllipticCurve = usage_with_curve p
allowed_usage p Other = []

-- 405 "no bit besides"
abbrev pub rule405 : Profile → List ℕ → KeyKind → Standing → List Head
rule405 p s kind e = where_good e (λ x v. broken_at (other_bits (usage_of s v) (allowed_usage p kind)) x.value)

unfoldable pub usage_rows : Profile → List ℕ → KeyKind → Standing → List Row
usage_rows p s kind e = 404 for server_and_responder ⦂ rule404 s e ∷ 405 for server_and_responder ⦂ rule405 p s kind e ∷ []
