-- Rules 201 to 203 (document 01, "Rules on fields"; document 02, CR 1): "at the key's algorithm".
use Rattle.std.specs.Prelude.{Bool, not, ◌&&◌, ◌||◌, List, [], ◌∷◌, ℕ}
use Rattle.rules_key.specs.Parameters.{is_null, is_curve}
use Rattle.der.specs.declared.header.Head.{Head}
use Rattle.profiles.specs.Judged.{S, server_and_responder, every_profile}
use Rattle.profiles.specs.Fields.{takes_curves}
use Rattle.profiles.specs.declared.fields.Profile.{Profile}
use Rattle.certificate.specs.declared.key.KeyKind.{KeyKind}
use Rattle.certificate.specs.declared.key.Key.{Key}
use Rattle.facts.specs.Kinds.{is_rsa, is_elliptic_curve}
use Rattle.report.specs.Rows.{Row, ◌for◌⦂◌, broken_at}

-- 201 "key is rsaEncryption, or (S) ecPublicKey"; "201 RSA only" (CR 1)
abbrev pub allows_kind : Profile → KeyKind → Bool
allows_kind p kind = is_rsa kind || takes_curves p && is_elliptic_curve kind

abbrev pub rule201 : Profile → Key → List Head
rule201 p k = broken_at (not (allows_kind p k.kind)) k.algorithm

-- 202 "RSA key: parameters NULL"
abbrev pub lacks_null : List ℕ → Key → Bool
lacks_null s k = is_rsa k.kind && not (is_null s k.parameters)

abbrev pub rule202 : List ℕ → Key → List Head
rule202 s k = broken_at (lacks_null s k) k.algorithm

-- 203 "EC key: parameters one of the curves in 000"
abbrev pub lacks_curve : List ℕ → Key → Bool
lacks_curve s k = is_elliptic_curve k.kind && not (is_curve s k.parameters)

abbrev pub rule203 : List ℕ → Key → List Head
rule203 s k = broken_at (lacks_curve s k) k.algorithm

unfoldable pub algorithm_rows : Profile → List ℕ → Key → List Row
algorithm_rows p s k = 201 for every_profile ⦂ rule201 p k ∷ 202 for server_and_responder ⦂ rule202 s k ∷ 203 for S ⦂ rule203 s k ∷ []
