-- A UUID as a URI (RFC 4122, 3): "urn:uuid:" and the UUID, which is
--     time-low "-" time-mid "-" time-high-and-version "-" clock-seq-and-reserved clock-seq-low "-" node
-- of 8, 4, 4, 4 and 12 hexadecimal digits. "The hexadecimal values "a" through "f" are .. case insensitive on input", and so are a URN's "urn:" and its
-- namespace (RFC 2141, 5). Version and variant are free.
use Rattle.std.specs.Prelude.{List, [], ◌∷◌, Bool, true, false, cond, ◌&&◌, ◌||◌, ℕ, leb, eqb}
use Prim.Native.Char.{code}
use Rattle.texts.specs.Texts.{word}
use Rattle.octets.specs.Characters.{is_digit}
use Rattle.octets.specs.Same.{lower_case}
use Rattle.der.specs.Contents.{contents_of}
use Rattle.der.specs.declared.header.Head.{Head}
use Rattle.locations.specs.Uris.{is_uri}

-- 0 to 9, a to f, A to F
abbrev pub is_hex_digit : ℕ → Bool
is_hex_digit c = is_digit c || (leb (code "a") (lower_case c) && leb (lower_case c) (code "f"))

-- the form: x stands for a hexadecimal digit, every other character for itself in any case
abbrev pub uuid_form : List ℕ
uuid_form = word "urn:uuid:xxxxxxxx-xxxx-xxxx-xxxx-xxxxxxxxxxxx"

-- the form's character f stands for c
abbrev pub is_as_in : ℕ → ℕ → Bool
is_as_in f c = cond (eqb f (code "x")) (is_hex_digit c) (eqb (lower_case c) f)

-- as many characters as the form has, each as in the form
unfoldable pub has_form : List ℕ → List ℕ → Bool
has_form [] [] = true
has_form [] (c ∷ cs) = false
has_form (f ∷ fs) [] = false
has_form (f ∷ fs) (c ∷ cs) = is_as_in f c && has_form fs cs

-- 508's name: a uniformResourceIdentifier of that form
abbrev pub is_uuid_uri : List ℕ → Head → Bool
is_uuid_uri s h = is_uri h && has_form uuid_form (contents_of s h)
