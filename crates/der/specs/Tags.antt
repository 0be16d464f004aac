-- Tags: the identifier octets of the types that this project names (X.690, 8.1.2), by the numbers of the universal types (X.680, table 1).
use Rattle.std.specs.Prelude.{ℕ, ◌+◌, ◌%◌}

-- the number that bits 5 to 1 say (8.1.2.2)
abbrev pub tag_number : ℕ → ℕ
tag_number tag = tag % 32

-- ---- Universal types: bits 8 and 7 are 0. A primitive element's bit 6 is 0 too, so that its identifier octet is the number of its type.

abbrev pub boolean_tag : ℕ
boolean_tag = 1

abbrev pub integer_tag : ℕ
integer_tag = 2

abbrev pub bit_string_tag : ℕ
bit_string_tag = 3

abbrev pub octet_string_tag : ℕ
octet_string_tag = 4

abbrev pub null_tag : ℕ
null_tag = 5

abbrev pub object_identifier_tag : ℕ
object_identifier_tag = 6

abbrev pub enumerated_tag : ℕ
enumerated_tag = 10

abbrev pub utf8_string_tag : ℕ
utf8_string_tag = 12

abbrev pub printable_string_tag : ℕ
printable_string_tag = 19

abbrev pub ia5_string_tag : ℕ
ia5_string_tag = 22

abbrev pub utc_time_tag : ℕ
utc_time_tag = 23

abbrev pub generalized_time_tag : ℕ
generalized_time_tag = 24

abbrev pub visible_string_tag : ℕ
visible_string_tag = 26

-- ---- the numbers of those that hold elements

abbrev pub external_number : ℕ
external_number = 8

abbrev pub embedded_pdv_number : ℕ
embedded_pdv_number = 11

abbrev pub sequence_number : ℕ
sequence_number = 16

abbrev pub set_number : ℕ
set_number = 17

abbrev pub character_string_number : ℕ
character_string_number = 29

-- bit 6 of a constructed element (8.1.2.5)
abbrev pub constructed_bit : ℕ
constructed_bit = 32

abbrev pub sequence_tag : ℕ
sequence_tag = constructed_bit + sequence_number

abbrev pub set_tag : ℕ
set_tag = constructed_bit + set_number

-- ---- The other classes (8.1.2.2, table 1): bit 7 for application, bit 8 for context-specific, both for private. The tags of universal types are
-- those below all others.

abbrev pub application_class : ℕ
application_class = 64

abbrev pub context_class : ℕ
context_class = 128

-- [n], primitive
abbrev pub context_tag : ℕ → ℕ
context_tag n = context_class + n

-- [n], constructed
abbrev pub context_holder : ℕ → ℕ
context_holder n = context_class + constructed_bit + n
