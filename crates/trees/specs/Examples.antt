-- X.690's own examples, proved in proofs/Examples.antt.
use Rattle.std.specs.Prelude.{List, [], ◌∷◌, ◌++◌, Bool, true, ℕ, ◌/◌, ◌%◌, eqb, pos, negsuc}
use Rattle.trees.specs.Values.{Value, boolean, integer, bit_string, null, identifier, type_number, contents}
use Rattle.trees.specs.Trees.{Class, universal, application, context_specific, Tag, Tree, primitive, constructed, nothing, ◌then◌}
use Rattle.texts.specs.Texts.{word}
use Rattle.der.specs.Tags.{sequence_number, ia5_string_tag, visible_string_tag}

pub record TreeExample : Type 0 where
  pub tree : Tree
  pub octets : List ℕ

abbrev tag : Class → ℕ → Tag
tag class number = record { class = class; number = number }

-- the element of a value
abbrev element : Value → Tree
element v = primitive (tag universal (type_number v)) (contents v)

-- the bits of hexadecimal digits
abbrev hex : List ℕ → List Bool
hex [] = []
hex (d ∷ ds) = eqb (d / 8 % 2) 1 ∷ eqb (d / 4 % 2) 1 ∷ eqb (d / 2 % 2) 1 ∷ eqb (d % 2) 1 ∷ hex ds

abbrev smith : List ℕ
smith = word "Smith"

abbrev jones : List ℕ
jones = word "Jones"

-- Type2 of 8.14.3, [APPLICATION 3] IMPLICIT VisibleString
abbrev type2 : Tree
type2 = primitive (tag application 3) jones

unfoldable pub tree_examples : List TreeExample
tree_examples =
    -- 8.2.2, BOOLEAN TRUE
    record { tree = element (boolean true); octets = 0x01 ∷ 0x01 ∷ 0xFF ∷ [] }
    -- 8.6.4.2, the bits 0A3B5F291CD
    ∷ record {
      tree = element (bit_string (hex (0x0 ∷ 0xA ∷ 0x3 ∷ 0xB ∷ 0x5 ∷ 0xF ∷ 0x2 ∷ 0x9 ∷ 0x1 ∷ 0xC ∷ 0xD ∷ [])));
      octets = 0x03 ∷ 0x07 ∷ 0x04 ∷ 0x0A ∷ 0x3B ∷ 0x5F ∷ 0x29 ∷ 0x1C ∷ 0xD0 ∷ [];
    }
    -- 8.8.2, NULL
    ∷ record { tree = element null; octets = 0x05 ∷ 0x00 ∷ [] }
    -- 8.9.3, a SEQUENCE of the IA5String "Smith" and TRUE
    ∷ record {
      tree = constructed (tag universal sequence_number) (primitive (tag universal ia5_string_tag) smith then element (boolean true) then nothing);
      octets = 0x30 ∷ 0x0A ∷ 0x16 ∷ 0x05 ∷ smith ++ 0x01 ∷ 0x01 ∷ 0xFF ∷ [];
    }
    -- 8.14.3, the VisibleString "Jones" as Type1; Type2; Type3, [2] Type2; Type4, [APPLICATION 7] IMPLICIT Type3; Type5, [2] IMPLICIT Type2
    ∷ record { tree = primitive (tag universal visible_string_tag) jones; octets = 0x1A ∷ 0x05 ∷ jones }
    ∷ record { tree = type2; octets = 0x43 ∷ 0x05 ∷ jones }
    ∷ record { tree = constructed (tag context_specific 2) (type2 then nothing); octets = 0xA2 ∷ 0x07 ∷ 0x43 ∷ 0x05 ∷ jones }
    ∷ record { tree = constructed (tag application 7) (type2 then nothing); octets = 0x67 ∷ 0x07 ∷ 0x43 ∷ 0x05 ∷ jones }
    ∷ record { tree = primitive (tag context_specific 2) jones; octets = 0x82 ∷ 0x05 ∷ jones }
    -- 8.19.5, the object identifier 2.100.3
    ∷ record { tree = element (identifier (2 ∷ 100 ∷ 3 ∷ [])); octets = 0x06 ∷ 0x03 ∷ 0x81 ∷ 0x34 ∷ 0x03 ∷ [] }
    -- beside X.690's own, INTEGERs where the number of octets changes: 0, 127, 128, 256, 32767, 32768, -1, -128, -129, -32768 and -32769
    ∷ record { tree = element (integer (pos 0)); octets = 0x02 ∷ 0x01 ∷ 0x00 ∷ [] }
    ∷ record { tree = element (integer (pos 127)); octets = 0x02 ∷ 0x01 ∷ 0x7F ∷ [] }
    ∷ record { tree = element (integer (pos 128)); octets = 0x02 ∷ 0x02 ∷ 0x00 ∷ 0x80 ∷ [] }
    ∷ record { tree = element (integer (pos 256)); octets = 0x02 ∷ 0x02 ∷ 0x01 ∷ 0x00 ∷ [] }
    ∷ record { tree = element (integer (pos 32767)); octets = 0x02 ∷ 0x02 ∷ 0x7F ∷ 0xFF ∷ [] }
    ∷ record { tree = element (integer (pos 32768)); octets = 0x02 ∷ 0x03 ∷ 0x00 ∷ 0x80 ∷ 0x00 ∷ [] }
    ∷ record { tree = element (integer (negsuc 0)); octets = 0x02 ∷ 0x01 ∷ 0xFF ∷ [] }
    ∷ record { tree = element (integer (negsuc 127)); octets = 0x02 ∷ 0x01 ∷ 0x80 ∷ [] }
    ∷ record { tree = element (integer (negsuc 128)); octets = 0x02 ∷ 0x02 ∷ 0xFF ∷ 0x7F ∷ [] }
    ∷ record { tree = element (integer (negsuc 32767)); octets = 0x02 ∷ 0x02 ∷ 0x80 ∷ 0x00 ∷ [] }
    ∷ record { tree = element (integer (negsuc 32768)); octets = 0x02 ∷ 0x03 ∷ 0xFF ∷ 0x7F ∷ 0xFF ∷ [] }
    ∷ []
