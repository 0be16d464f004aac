-- The profiles by their numbers (document 01, first paragraph, and document 02, CR 1), and what they ask of fields, subject and key ("Rules on fields"). What
-- differs between profiles is said by one arm a profile.
use Rattle.std.specs.Prelude.{Bool, true, false, cond, ◌||◌, ℕ, eqb, Option, Some, None}
use Rattle.profiles.specs.declared.fields.Profile.{Profile}
use Rattle.profiles.specs.declared.fields.Profile.TheVariants.{Domain, Organization, Responder, Subordinate}
use Rattle.profiles.specs.declared.fields.Limit.{Limit}
use Rattle.profiles.specs.declared.fields.Limit.TheVariants.{Days, Years}

-- "1 server, domain validation; 2 server, organization validation; 3 delegated OCSP responder"; "source document 001 as profile 4": subordinate CA
unfoldable pub asked_of : ℕ → Option Profile
asked_of number =
    cond (eqb number 1) (Some Domain)
    (cond (eqb number 2) (Some Organization)
    (cond (eqb number 3) (Some Responder)
    (cond (eqb number 4) (Some Subordinate) None)))

abbrev pub profile_number : Profile → ℕ
profile_number Domain = 1
profile_number Organization = 2
profile_number Responder = 3
profile_number Subordinate = 4

-- 111 "at most 395 days (S), 45 days (O)"; "111 allows ten years" (CR 1)
abbrev pub limit_of : Profile → Limit
limit_of Domain = Days 395
limit_of Organization = Days 395
limit_of Responder = Days 45
limit_of Subordinate = Years 10

-- ---- attributes, by their arcs below 2.5.4 (X.520)

abbrev pub common_name : ℕ
common_name = 3

abbrev pub country : ℕ
country = 6

abbrev pub state_or_province : ℕ
state_or_province = 8

abbrev pub organization : ℕ
organization = 10

abbrev pub organizational_unit : ℕ
organizational_unit = 11

-- 112 "CN, C (1); CN, C, O, ST (2); CN, C, O, OU (O)"; "CN, C, O" (CR 1)
abbrev pub allows_attribute : Profile → ℕ → Bool
allows_attribute Domain arc = eqb arc common_name || eqb arc country
allows_attribute Organization arc = eqb arc common_name || (eqb arc country || (eqb arc organization || eqb arc state_or_province))
allows_attribute Responder arc = eqb arc common_name || (eqb arc country || (eqb arc organization || eqb arc organizational_unit))
allows_attribute Subordinate arc = eqb arc common_name || (eqb arc country || eqb arc organization)

-- 117 "PrintableString or UTF8String"; "O in PrintableString only" (CR 1)
abbrev pub takes_utf8 : Profile → Bool
takes_utf8 Domain = true
takes_utf8 Organization = true
takes_utf8 Responder = true
takes_utf8 Subordinate = false

-- 201 "rsaEncryption, or (S) ecPublicKey"; "RSA only" (CR 1)
abbrev pub takes_curves : Profile → Bool
takes_curves Domain = true
takes_curves Organization = true
takes_curves Responder = false
takes_curves Subordinate = false
