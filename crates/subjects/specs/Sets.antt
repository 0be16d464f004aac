-- The SETs of attributes of a subject name: RelativeDistinguishedName ::= SET SIZE (1..MAX) OF AttributeTypeAndValue (RFC 5280, appendix A.1).
use Rattle.std.specs.Prelude.{Bool, true, false, List, [], ◌∷◌, ℕ}
use Rattle.der.specs.Members.{members_in}
use Rattle.der.specs.declared.header.Head.{Head}

-- more than one
abbrev pub several : List Head → Bool
several [] = false
several (h ∷ []) = false
several (h ∷ g ∷ hs) = true

-- 121 "each SET of a subject name with over one member": the SET h is one
unfoldable pub is_crowded : List ℕ → Head → Bool
is_crowded s h = several (members_in s h)
