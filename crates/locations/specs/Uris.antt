-- URIs (RFC 5280, 4.2.1.6: uniformResourceIdentifier [6] IA5String).
use Rattle.std.specs.Prelude.{List, Bool, not, ◌&&◌, ℕ, length, take, ltb, eqb}
use Rattle.texts.specs.Texts.{word}
use Rattle.octets.specs.Same.{same_by, lower_case}
use Rattle.der.specs.Contents.{contents_of}
use Rattle.der.specs.Tags.{context_tag}
use Rattle.der.specs.declared.header.Head.{Head}

abbrev pub is_uri : Head → Bool
is_uri h = eqb h.tag (context_tag 6)

-- "'http://' in any case, then something"
abbrev pub begins_http : List ℕ → Bool
begins_http text = ltb 7 (length text) && same_by lower_case (take 7 text) (word "http://")

-- "an HTTP URI"
abbrev pub is_http : List ℕ → Head → Bool
is_http s h = is_uri h && begins_http (contents_of s h)

-- 424 "each URI in a CRL point's full name not HTTP" (document 02, CR 1): a name is one
abbrev pub is_other_uri : List ℕ → Head → Bool
is_other_uri s h = is_uri h && not (is_http s h)
