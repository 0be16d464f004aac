-- "RSA key" and "EC key" (document 01, "Rules on fields").
use Rattle.std.specs.Prelude.{Bool, true, false}
use Rattle.certificate.specs.declared.key.KeyKind.{KeyKind}
use Rattle.certificate.specs.declared.key.KeyKind.TheVariants.{Rsa, EllipticCurve, Other}

abbrev pub is_rsa : KeyKind → Bool
is_rsa Rsa = true
is_rsa EllipticCurve = false
is_rsa Other = false

abbrev pub is_elliptic_curve : KeyKind → Bool
is_elliptic_curve Rsa = false
is_elliptic_curve EllipticCurve = true
is_elliptic_curve Other = false
