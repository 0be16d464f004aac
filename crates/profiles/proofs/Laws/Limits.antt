-- How long a validity may be, by profile.
--     limit_positive     every profile allows a day, or a year, at least
-- Assumes nothing.
use Prim.Native.Nat.{◌<◌}
use native.Mathlib.Omega.{arith}
use Rattle.profiles.specs.Fields.{limit_of}
use Rattle.profiles.specs.declared.fields.Limit.{Limit}
use Rattle.profiles.specs.declared.fields.Limit.TheVariants.{Days, Years}
use Rattle.profiles.specs.declared.fields.Profile.{Profile}
use Rattle.profiles.specs.declared.fields.Profile.TheVariants.{Domain, Organization, Responder, Subordinate}

abbrev pub Positive : Limit → Type 0
Positive (Days days) = 0 < days
Positive (Years years) = 0 < years

pub limit_positive : (p : Profile) → Positive (limit_of p)
limit_positive Domain = omega arith
limit_positive Organization = omega arith
limit_positive Responder = omega arith
limit_positive Subordinate = omega arith
