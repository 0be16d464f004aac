-- What rules say of one item (document 01, "Rules on fields" and "Rules on extensions"). Each kind cites its rule where the item's room defines it:
-- subjects 112 to 122, usages 407 and 408, policies 409 to 411, hosts 412 to 414, locations 415 to 419, 423 and 424.
use Rattle.std.specs.Prelude.{Bool, not, ◌&&◌, List, ℕ, eqb}
use Rattle.forms.specs.declared.kinds.Kind.{Kind}
use Rattle.forms.specs.declared.kinds.Kind.TheVariants.{Attribute, Foreign, OtherCountry, OtherOrganization, OtherState, OtherAuthority, Crowded}
use Rattle.forms.specs.declared.kinds.Kind.TheVariants.{Repeated, Unwanted, OutOfPlace, WantedPurpose, OtherPurpose}
use Rattle.forms.specs.declared.kinds.Kind.TheVariants.{FederalPolicy, ForumPolicy, OtherQualifier, NotHost, Underscore, NoHostName}
use Rattle.forms.specs.declared.kinds.Kind.TheVariants.{UriBy, NotHttpBy, HttpUri, OtherUri, Restricted}
use Rattle.forms.specs.declared.extensions.Repeats.{Repeats}
use Rattle.der.specs.declared.header.Head.{Head}
use Rattle.profiles.specs.Fields.{allows_attribute, takes_utf8}
use Rattle.profiles.specs.Extensions.{mark_of, is_unwanted, is_out_of_place}
use Rattle.profiles.specs.Values.{wanted_purpose, allows_purpose, wants_forum}
use Rattle.profiles.specs.declared.fields.Profile.{Profile}
use Rattle.certificate.specs.Extensions.{extension_of, slot_of, is_period, seen_before}
use Rattle.subjects.specs.Types.{arc_of}
use Rattle.subjects.specs.Texts.{is_other_country, is_other_organization, is_other_state}
use Rattle.subjects.specs.Authorities.{is_other_authority}
use Rattle.subjects.specs.Sets.{is_crowded}
use Rattle.usages.specs.Purposes.{purpose_arc}
use Rattle.policies.specs.Policies.{policy_below, forum_arc, other_qualifier}
use Rattle.hosts.specs.Names.{is_dns_name}
use Rattle.hosts.specs.Hosts.{has_underscore, no_host}
use Rattle.locations.specs.Uris.{is_http, is_other_uri}
use Rattle.locations.specs.Access.{uri_by, not_http_by}
use Rattle.locations.specs.Points.{is_restricted}

-- ---- attributes

-- X of "one X", by its arc below 2.5.4
abbrev pub has_arc : List ℕ → ℕ → Head → Bool
has_arc s arc h = eqb (arc_of s h) arc

-- 112 "each subject attribute besides CN, C (1); CN, C, O, ST (2); CN, C, O, OU (O)"; "112 allows CN, C, O" (document 02, CR 1)
abbrev pub is_foreign : Profile → List ℕ → Head → Bool
is_foreign p s h = not (allows_attribute p (arc_of s h))

-- ---- extensions

-- 362 "each extension "no" or not in the table, save private key usage period 2.5.29.16"; "other rules see the first only", so not one that was seen
abbrev pub unwanted_by : Profile → (Head → Bool) → List ℕ → Head → Bool
unwanted_by p seen s h = is_unwanted (mark_of p (slot_of s h)) && (not (is_period s h) && not (seen h))

-- 363 "each critical one that is "other" or not in the table"
abbrev pub out_of_place_by : Profile → (Head → Bool) → List ℕ → Head → Bool
out_of_place_by p seen s h = is_out_of_place (mark_of p (slot_of s h)) && ((extension_of s h).critical && not (seen h))

-- as the code asks whether an identifier was seen before: only in a list that has such an extension
abbrev pub is_repeat : Repeats → List ℕ → Head → Bool
is_repeat repeats s h = repeats.some && seen_before s repeats.from h

unfoldable pub is_unwanted_in : Profile → Repeats → List ℕ → Head → Bool
is_unwanted_in p repeats s h = unwanted_by p (is_repeat repeats s) s h

unfoldable pub is_out_of_place_in : Profile → Repeats → List ℕ → Head → Bool
is_out_of_place_in p repeats s h = out_of_place_by p (is_repeat repeats s) s h

-- ---- values

-- 407 "serverAuth (S) or OCSPSigning (O)"
abbrev pub is_wanted_purpose : Profile → List ℕ → Head → Bool
is_wanted_purpose p s h = eqb (purpose_arc s h) (wanted_purpose p)

-- 408 "each other purpose, clientAuth excepted for S"
abbrev pub is_other_purpose : Profile → List ℕ → Head → Bool
is_other_purpose p s h = not (allows_purpose p (purpose_arc s h))

-- 410 "2.23.140.1.2.1 (1) or 2.23.140.1.2.2 (2)"
abbrev pub is_forum_policy : Profile → List ℕ → Head → Bool
is_forum_policy p s h = wants_forum p (forum_arc s h)

-- 412 "each name not a dNSName"
abbrev pub is_no_dns_name : Head → Bool
is_no_dns_name h = not (is_dns_name h)

-- ---- all of them

abbrev pub of_kind : Kind → Profile → List ℕ → Head → Bool
of_kind (Attribute arc) p s h = has_arc s arc h
of_kind Foreign p s h = is_foreign p s h
of_kind OtherCountry p s h = is_other_country s h
of_kind OtherOrganization p s h = is_other_organization (takes_utf8 p) s h
of_kind OtherState p s h = is_other_state s h
of_kind OtherAuthority p s h = is_other_authority s h
of_kind Crowded p s h = is_crowded s h
of_kind (Repeated repeats) p s h = is_repeat repeats s h
of_kind (Unwanted repeats) p s h = is_unwanted_in p repeats s h
of_kind (OutOfPlace repeats) p s h = is_out_of_place_in p repeats s h
of_kind WantedPurpose p s h = is_wanted_purpose p s h
of_kind OtherPurpose p s h = is_other_purpose p s h
of_kind FederalPolicy p s h = policy_below s h
of_kind ForumPolicy p s h = is_forum_policy p s h
of_kind OtherQualifier p s h = other_qualifier s h
of_kind NotHost p s h = is_no_dns_name h
of_kind Underscore p s h = has_underscore s h
of_kind NoHostName p s h = no_host s h
of_kind (UriBy method) p s h = uri_by s method h
of_kind (NotHttpBy method) p s h = not_http_by s method h
of_kind HttpUri p s h = is_http s h
of_kind OtherUri p s h = is_other_uri s h
of_kind Restricted p s h = is_restricted s h
