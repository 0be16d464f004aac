-- Names (RFC 5280, 4.2.1.6: GeneralName), and the rule that holds a common name to them.
use Rattle.std.specs.Prelude.{List, Bool, ◌&&◌, ℕ, eqb}
use Rattle.octets.specs.Same.{same_by, lower_case}
use Rattle.der.specs.Contents.{contents_of}
use Rattle.der.specs.Tags.{context_tag}
use Rattle.der.specs.declared.header.Head.{Head}
use Rattle.der.specs.Elements.{any_of}

-- dNSName [2] IA5String
abbrev pub is_dns_name : Head → Bool
is_dns_name h = eqb h.tag (context_tag 2)

-- a dNSName whose contents are these octets, ASCII case ignored
abbrev pub is_named : List ℕ → List ℕ → Head → Bool
is_named s c h = is_dns_name h && same_by lower_case c (contents_of s h)

-- 120 "the first CN equals at least one dNSName of the subject alternative name, ASCII case ignored. Content octets are compared"
abbrev pub some_named : List ℕ → List ℕ → List Head → Bool
some_named s c names = any_of (is_named s c) names
