-- The octet with the bits that rule 405 allows has these bits and no others.
--     allowed_named
-- Assumes nothing.
use mathlib.Core.Path.{◌≡◌, refl}
use Rattle.rules_values.specs.Usage.{allowed_usage}
use Rattle.profiles.specs.Values.{octet_with}
use Rattle.profiles.specs.declared.fields.Profile.{Profile}
use Rattle.profiles.specs.declared.fields.Profile.TheVariants.{Domain, Organization, Responder, Subordinate}
use Rattle.certificate.specs.declared.key.KeyKind.{KeyKind}
use Rattle.certificate.specs.declared.key.KeyKind.TheVariants.{Rsa, EllipticCurve, Other}
use Rattle.usages.specs.Usage.{passing_below, bits_in}

pub allowed_named : (p : Profile) (kind : KeyKind) → bits_in (octet_with (allowed_usage p kind)) ≡ allowed_usage p kind
unfolding bits_in passing_below
allowed_named Domain Rsa = refl
allowed_named Domain EllipticCurve = refl
allowed_named Domain Other = refl
allowed_named Organization Rsa = refl
allowed_named Organization EllipticCurve = refl
allowed_named Organization Other = refl
allowed_named Responder Rsa = refl
allowed_named Responder EllipticCurve = refl
allowed_named Responder Other = refl
allowed_named Subordinate Rsa = refl
allowed_named Subordinate EllipticCurve = refl
allowed_named Subordinate Other = refl
