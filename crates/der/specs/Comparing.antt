-- What elements say, octet by octet.
use Rattle.std.specs.Prelude.{List, Bool, ℕ}
use Rattle.octets.specs.Same.{same_by, exactly}
use Rattle.der.specs.Contents.{contents_of}
use Rattle.der.specs.Order.{octets_of}
use Rattle.der.specs.Members.{first_in}
use Rattle.der.specs.declared.header.Head.{Head}

-- the contents of an element are a text; so are those of its first member; so are its octets, header and contents
unfoldable pub contents_are : List ℕ → Head → List ℕ → Bool
contents_are s h text = same_by exactly (contents_of s h) text

abbrev pub first_is : List ℕ → Head → List ℕ → Bool
first_is s h text = contents_are s (first_in s h) text

unfoldable pub octets_are : List ℕ → Head → List ℕ → Bool
octets_are s h text = same_by exactly (octets_of s h) text

-- two elements, perhaps of two certificates, have the same contents; are the same octets, header and contents
abbrev pub same_contents : List ℕ → Head → List ℕ → Head → Bool
same_contents s a t b = contents_are s a (contents_of t b)

abbrev pub same_element : List ℕ → Head → List ℕ → Head → Bool
same_element s a t b = octets_are s a (octets_of t b)
