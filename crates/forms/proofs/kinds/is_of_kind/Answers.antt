-- `forms::kinds::is_of_kind` meets its contract: an arm a kind. Assumes nothing.
use Rattle.forms.proofs.kinds.is_of_kind.Goals as goal

pub returns-in-Attribute : goal.returns-in-Attribute
returns-in-Attribute c = rw (c.in-Attribute.is, ← c.arc_of.ensures)

pub returns-in-Foreign : goal.returns-in-Foreign
returns-in-Foreign c = rw (c.in-Foreign.is, ← c.arc_of-in-Foreign.ensures, ← c.allows_attribute.ensures)

pub returns-in-OtherCountry : goal.returns-in-OtherCountry
returns-in-OtherCountry c = rw c.in-OtherCountry.is c.is_other_country.ensures

pub returns-in-OtherOrganization : goal.returns-in-OtherOrganization
returns-in-OtherOrganization c = rw (c.in-OtherOrganization.is, ← c.takes_utf8.ensures) c.is_other_organization.ensures

pub returns-in-OtherState : goal.returns-in-OtherState
returns-in-OtherState c = rw c.in-OtherState.is c.is_other_state.ensures

pub returns-in-OtherAuthority : goal.returns-in-OtherAuthority
returns-in-OtherAuthority c = rw c.in-OtherAuthority.is c.is_other_authority.ensures

pub returns-in-Crowded : goal.returns-in-Crowded
returns-in-Crowded c = rw c.in-Crowded.is c.is_crowded.ensures

pub returns-in-Repeated : goal.returns-in-Repeated
returns-in-Repeated c = rw c.in-Repeated.is c.is_repeat.ensures

pub returns-in-Unwanted : goal.returns-in-Unwanted
returns-in-Unwanted c = rw c.in-Unwanted.is c.is_unwanted_in.ensures

pub returns-in-OutOfPlace : goal.returns-in-OutOfPlace
returns-in-OutOfPlace c = rw c.in-OutOfPlace.is c.is_out_of_place_in.ensures

pub returns-in-WantedPurpose : goal.returns-in-WantedPurpose
returns-in-WantedPurpose c = rw (c.in-WantedPurpose.is, ← c.purpose_arc.ensures, ← c.wanted_purpose.ensures)

pub returns-in-OtherPurpose : goal.returns-in-OtherPurpose
returns-in-OtherPurpose c = rw (c.in-OtherPurpose.is, ← c.purpose_arc-in-OtherPurpose.ensures, ← c.allows_purpose.ensures)

pub returns-in-FederalPolicy : goal.returns-in-FederalPolicy
returns-in-FederalPolicy c = rw c.in-FederalPolicy.is c.is_federal.ensures

pub returns-in-ForumPolicy : goal.returns-in-ForumPolicy
returns-in-ForumPolicy c = rw (c.in-ForumPolicy.is, ← c.forum_arc.ensures) c.wants_forum.ensures

pub returns-in-OtherQualifier : goal.returns-in-OtherQualifier
returns-in-OtherQualifier c = rw c.in-OtherQualifier.is c.other_qualifier.ensures

pub returns-in-NotHost : goal.returns-in-NotHost
returns-in-NotHost c = rw (c.in-NotHost.is, ← c.is_dns_name.ensures)

pub returns-in-Underscore : goal.returns-in-Underscore
returns-in-Underscore c = rw c.in-Underscore.is c.has_underscore.ensures

pub returns-in-NoHostName : goal.returns-in-NoHostName
returns-in-NoHostName c = rw c.in-NoHostName.is c.no_host.ensures

pub returns-in-UriBy : goal.returns-in-UriBy
returns-in-UriBy c = rw c.in-UriBy.is c.uri_by.ensures

pub returns-in-NotHttpBy : goal.returns-in-NotHttpBy
returns-in-NotHttpBy c = rw c.in-NotHttpBy.is c.not_http_by.ensures

pub returns-in-HttpUri : goal.returns-in-HttpUri
returns-in-HttpUri c = rw c.in-HttpUri.is c.is_http.ensures

pub returns-in-OtherUri : goal.returns-in-OtherUri
returns-in-OtherUri c = rw c.in-OtherUri.is c.is_other_uri.ensures

pub returns-in-Restricted : goal.returns-in-Restricted
returns-in-Restricted c = rw c.in-Restricted.is c.restricted.ensures
