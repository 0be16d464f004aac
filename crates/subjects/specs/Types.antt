-- An attribute: AttributeTypeAndValue ::= SEQUENCE { type OBJECT IDENTIFIER, value ANY } (RFC 5280, appendix A.1).
use Rattle.std.specs.Prelude.{List, [], ◌∷◌, ℕ}
use Rattle.der.specs.Arcs.{arc_below}
use Rattle.der.specs.Members.{first_in, second_in}
use Rattle.der.specs.Contents.{contents_of}
use Rattle.der.specs.Oids.{oid}
use Rattle.der.specs.declared.header.Head.{Head}

-- X.520's attribute types are below it
abbrev pub attribute_types : List ℕ
attribute_types = oid (2 ∷ 5 ∷ 4 ∷ [])

-- the type is the first member
abbrev pub type_of : List ℕ → Head → Head
type_of s h = first_in s h

-- n of a type 2.5.4.n with n below 128; any other one is 0 here
unfoldable pub arc_of : List ℕ → Head → ℕ
arc_of s h = arc_below attribute_types (contents_of s (type_of s h))

-- the value is the second
unfoldable pub attribute_value : List ℕ → Head → Head
attribute_value s h = second_in s h
