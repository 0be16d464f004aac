-- Rule 122 of one attribute (document 02, CR 1).
use Rattle.std.specs.Prelude.{Bool, false, not, ◌&&◌, ◌||◌, List, [], ◌∷◌, ℕ, eqb, length, take, drop}
use Prim.Native.Char.{code}
use Rattle.subjects.specs.Types.{arc_of, attribute_value}
use Rattle.profiles.specs.Fields.{common_name}
use Rattle.texts.specs.Texts.{word}
use Rattle.octets.specs.Characters.{are_digits}
use Rattle.octets.specs.Same.{same_by, exactly}
use Rattle.der.specs.Contents.{contents_of}
use Rattle.der.specs.Tags.{printable_string_tag}
use Rattle.der.specs.declared.header.Head.{Head}

-- "a decimal number from 1 without leading zeros": at least one octet, all of them digits, the first not 0
unfoldable pub is_number_from_one : List ℕ → Bool
is_number_from_one [] = false
is_number_from_one (c ∷ cs) = not (eqb c (code "0")) && are_digits (c ∷ cs)

-- a text that begins with these words and goes on with such a number
unfoldable pub is_numbered : List ℕ → List ℕ → Bool
is_numbered words text = same_by exactly (take (length words) text) words && is_number_from_one (drop (length words) text)

abbrev pub authority : List ℕ
authority = word "US Federal TLS CA "

abbrev pub test_authority : List ℕ
test_authority = word "US Federal Test TLS CA "

-- ""US Federal TLS CA x" or "US Federal Test TLS CA x", x a decimal number from 1 .."
abbrev pub names_authority : List ℕ → Bool
names_authority text = is_numbered authority text || is_numbered test_authority text

-- a value that is a PrintableString with such a text
unfoldable pub says_authority : List ℕ → Head → Bool
says_authority s value = eqb value.tag printable_string_tag && names_authority (contents_of s value)

-- 122 "each CN is a PrintableString "US Federal TLS CA x" or "US Federal Test TLS CA x", x a decimal number from 1 without leading zeros": a CN that is not
unfoldable pub is_other_authority : List ℕ → Head → Bool
is_other_authority s h = eqb (arc_of s h) common_name && not (says_authority s (attribute_value s h))
