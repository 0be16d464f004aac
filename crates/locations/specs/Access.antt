-- The entries of an authority information access (RFC 5280, 4.2.2.1):
--     AccessDescription ::= SEQUENCE { accessMethod OBJECT IDENTIFIER, accessLocation GeneralName }
use Rattle.std.specs.Prelude.{List, [], ◌∷◌, Bool, not, ◌&&◌, ℕ, eqb}
use Rattle.locations.specs.Uris.{is_uri, is_http}
use Rattle.locations.specs.declared.access.Method.{Method}
use Rattle.locations.specs.declared.access.Method.TheVariants.{Ocsp, CaIssuers}
use Rattle.der.specs.Members.{first_in, second_in}
use Rattle.der.specs.Comparing.{contents_are}
use Rattle.der.specs.Oids.{oid}
use Rattle.der.specs.Tags.{object_identifier_tag}
use Rattle.der.specs.declared.header.Head.{Head}

-- id-ad-ocsp, id-ad-caIssuers
abbrev pub method_identifier : Method → List ℕ
method_identifier Ocsp = oid (1 ∷ 3 ∷ 6 ∷ 1 ∷ 5 ∷ 5 ∷ 7 ∷ 48 ∷ 1 ∷ [])
method_identifier CaIssuers = oid (1 ∷ 3 ∷ 6 ∷ 1 ∷ 5 ∷ 5 ∷ 7 ∷ 48 ∷ 2 ∷ [])

-- an OBJECT IDENTIFIER that is the method's
abbrev pub is_method : List ℕ → Method → Head → Bool
is_method s method h = eqb h.tag object_identifier_tag && contents_are s h (method_identifier method)

-- the entry's first member
abbrev pub method_of : List ℕ → Head → Head
method_of s h = first_in s h

-- its second
abbrev pub location_of : List ℕ → Head → Head
location_of s h = second_in s h

-- an OCSP entry, or a caIssuers entry
abbrev pub has_method : List ℕ → Method → Head → Bool
has_method s method h = is_method s method (method_of s h)

-- 415 "an OCSP entry with a URI", 416 "a caIssuers entry with a URI"
abbrev pub uri_by : List ℕ → Method → Head → Bool
uri_by s method h = has_method s method h && is_uri (location_of s h)

-- 417 "each caIssuers entry not an HTTP URI", 423 "each OCSP entry not an HTTP URI" (document 02, CR 1)
abbrev pub not_http_by : List ℕ → Method → Head → Bool
not_http_by s method h = has_method s method h && not (is_http s (location_of s h))

-- 504 and 505: an OCSP entry, or a caIssuers entry, that is an HTTP URI (document 02, CR 4: "AIA with HTTP entries of both methods")
abbrev pub http_by : List ℕ → Method → Head → Bool
http_by s method h = has_method s method h && is_http s (location_of s h)
