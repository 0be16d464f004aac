-- Rules 115, 117 and 119 of one attribute (document 01, "Rules on fields"; document 02, CR 1).
use Rattle.std.specs.Prelude.{Bool, true, false, not, ◌&&◌, ◌||◌, List, ℕ, eqb}
use Rattle.profiles.specs.Fields.{country, organization, state_or_province}
use Rattle.subjects.specs.Types.{arc_of, attribute_value}
use Rattle.texts.specs.Texts.{word}
use Rattle.der.specs.Comparing.{contents_are}
use Rattle.der.specs.Tags.{utf8_string_tag, printable_string_tag}
use Rattle.der.specs.declared.header.Head.{Head}

-- the value is a PrintableString, or where that is allowed a UTF8String, with this text
abbrev pub says_text : List ℕ → Head → Bool → List ℕ → Bool
says_text s h utf8 text =
    (eqb (attribute_value s h).tag printable_string_tag || utf8 && eqb (attribute_value s h).tag utf8_string_tag) && contents_are s (attribute_value s h) text

-- an attribute with this arc that says another text
unfoldable pub is_other : List ℕ → Head → ℕ → Bool → List ℕ → Bool
is_other s h arc utf8 text = eqb (arc_of s h) arc && not (says_text s h utf8 text)

abbrev pub united_states : List ℕ
united_states = word "US"

abbrev pub government : List ℕ
government = word "U.S. Government"

abbrev pub district_of_columbia : List ℕ
district_of_columbia = word "District of Columbia"

-- 115 "each C is PrintableString "US""
abbrev pub is_other_country : List ℕ → Head → Bool
is_other_country s h = is_other s h country false united_states

-- 117 "each O is "U.S. Government""; "117 and 119 take PrintableString or UTF8String" (document 01), profile 4 "O in PrintableString only" (document
-- 02, CR 1): utf8 says whether a UTF8String is allowed
abbrev pub is_other_organization : Bool → List ℕ → Head → Bool
is_other_organization utf8 s h = is_other s h organization utf8 government

-- 119 "each ST is "District of Columbia""
abbrev pub is_other_state : List ℕ → Head → Bool
is_other_state s h = is_other s h state_or_province true district_of_columbia
