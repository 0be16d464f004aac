-- Host names: what rules 413 and 414 ask of a dNSName's contents.
use Rattle.std.specs.Prelude.{List, [], ◌∷◌, ◌++◌, Bool, true, false, cond, not, ◌&&◌, ◌||◌, ℕ, length, leb, eqb}
use Prim.Native.Char.{code}
use Rattle.octets.specs.Octets.{is_one_of}
use Rattle.hosts.specs.Names.{is_dns_name}
use Rattle.octets.specs.Characters.{is_digit, is_letter}
use Rattle.der.specs.Contents.{last_of, contents_of}
use Rattle.der.specs.declared.header.Head.{Head}

-- 413 "each dNSName with an underscore"
abbrev pub has_underscore : List ℕ → Head → Bool
has_underscore s h = is_dns_name h && is_one_of (code "_") (contents_of s h)

-- "letters, digits, hyphens (underscore passes here)"
abbrev pub label_octet : ℕ → Bool
label_octet b = is_letter b || (is_digit b || (eqb b (code "-") || eqb b (code "_")))

unfoldable pub label_octets : List ℕ → Bool
label_octets [] = true
label_octets (b ∷ bs) = label_octet b && label_octets bs

-- "1 to 63 letters, digits, hyphens (underscore passes here), no hyphen at either end of a label"
abbrev pub label_ok : List ℕ → Bool
label_ok [] = false
label_ok (b ∷ bs) = leb (length (b ∷ bs)) 63 && (label_octets (b ∷ bs) && (not (eqb b (code "-")) && not (eqb (last_of b bs) (code "-"))))

-- the labels of octets that stand behind the label so far: a dot ends it, and so does the end of the name
unfoldable pub labels_from : List ℕ → List ℕ → List (List ℕ)
labels_from label [] = label ∷ []
labels_from label (b ∷ bs) = cond (eqb b (code ".")) (label ∷ labels_from [] bs) (labels_from (label ++ (b ∷ [])) bs)

-- a name's labels, which dots set apart (a dot at the end leaves an empty label)
abbrev pub labels_of : List ℕ → List (List ℕ)
labels_of name = labels_from [] name

unfoldable pub labels_ok : List (List ℕ) → Bool
labels_ok [] = true
labels_ok (label ∷ labels) = label_ok label && labels_ok labels

-- "two or more labels of 1 to 63 letters, digits, hyphens (underscore passes here), no hyphen at either end of a label, at most 253 octets"
abbrev pub is_host_name : List ℕ → Bool
is_host_name name = leb (length name) 253 && (leb 2 (length (labels_of name)) && labels_ok (labels_of name))

-- 414 "each dNSName not of" the above
abbrev pub no_host : List ℕ → Head → Bool
no_host s h = is_dns_name h && not (is_host_name (contents_of s h))
