-- The universal types' rules on form and contents (X.690, 8.2 to 8.19 and 11), in the words of document 01's "Sound DER".
use Rattle.std.specs.Prelude.{List, [], ◌∷◌, Bool, true, false, cond, not, ◌&&◌, ◌||◌, ℕ, ◌-◌, ◌%◌, ◌/◌, ◌^◌, ltb, leb, eqb}
use Rattle.der.specs.declared.header.Head.{Head}
use Rattle.der.specs.Tags.{tag_number, constructed_bit, application_class, boolean_tag, integer_tag, bit_string_tag, null_tag, object_identifier_tag, enumerated_tag}
use Rattle.der.specs.Tags.{external_number, embedded_pdv_number, sequence_number, set_number, character_string_number}
use Rattle.octets.specs.Octets.{octets_from}

-- bit 6 of the identifier octet (8.1.2.5)
abbrev pub constructed : ℕ → Bool
constructed tag = not (eqb (tag / constructed_bit % 2) 0)

-- the universal types that hold elements, by number
abbrev pub holds_elements : ℕ → Bool
holds_elements number =
    eqb number external_number
    || (eqb number embedded_pdv_number || (eqb number sequence_number || (eqb number set_number || eqb number character_string_number)))

-- "one octet 00 or FF"
abbrev pub boolean_ok : List ℕ → Bool
boolean_ok [] = false
boolean_ok (b ∷ []) = eqb b 0 || eqb b 255
boolean_ok (b ∷ c ∷ cs) = false

-- "non-empty, minimal two's complement": the first nine bits are neither all 0 nor all 1
abbrev pub integer_ok : List ℕ → Bool
integer_ok [] = false
integer_ok (a ∷ []) = true
integer_ok (a ∷ b ∷ cs) = not (eqb a 0 && ltb b 128 || eqb a 255 && leb 128 b)

-- the last of octets, of which b is the first
abbrev pub last_of : ℕ → List ℕ → ℕ
last_of b [] = b
last_of b (c ∷ cs) = last_of c cs

-- "first octet 0 to 7, unused bits zero, 0 if nothing follows"
abbrev pub bits_ok : List ℕ → Bool
bits_ok [] = false
bits_ok (unused ∷ []) = eqb unused 0
bits_ok (unused ∷ b ∷ bs) = ltb unused 8 && eqb (last_of b bs % 2 ^ unused) 0

-- "empty"
abbrev pub null_ok : List ℕ → Bool
null_ok [] = true
null_ok (b ∷ bs) = false

-- octets of which fresh says whether an arc starts with the first: "no arc starting 80, last octet below 80"
unfoldable pub arcs_ok : Bool → List ℕ → Bool
arcs_ok fresh [] = fresh
arcs_ok fresh (b ∷ bs) = not (fresh && eqb b 128) && arcs_ok (ltb b 128) bs

-- "non-empty", and its arcs
abbrev pub oid_ok : List ℕ → Bool
oid_ok [] = false
oid_ok (b ∷ bs) = arcs_ok true (b ∷ bs)

-- What the universal type with this number, which is a primitive element's tag, asks of primitive contents; a type that holds elements has none,
-- and "all others" are free.
unfoldable pub primitive_ok : ℕ → List ℕ → Bool
primitive_ok number c =
    cond (eqb number boolean_tag) (boolean_ok c)
    (cond (eqb number integer_tag || eqb number enumerated_tag) (integer_ok c)
    (cond (eqb number bit_string_tag) (bits_ok c)
    (cond (eqb number null_tag) (null_ok c)
    (cond (eqb number object_identifier_tag) (oid_ok c) (not (holds_elements number))))))

-- the contents of an element
abbrev pub contents_of : List ℕ → Head → List ℕ
contents_of s h = octets_from s h.body (h.end - h.body)

-- "SEQUENCE, SET and universal 8, 11 and 29 constructed, all others primitive", and what a primitive one asks of its contents
abbrev pub universal_ok : ℕ → List ℕ → Bool
universal_ok tag c = cond (constructed tag) (holds_elements (tag_number tag)) (primitive_ok (tag_number tag) c)

-- An element's header is sound, and what its type asks is kept, if that is universal.
unfoldable pub element_ok : List ℕ → Head → Bool
element_ok s h = h.sound && (leb application_class h.tag || universal_ok h.tag (contents_of s h))
