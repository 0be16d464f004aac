-- Worked examples of rule 122, by computation. Assumes nothing.
use mathlib.Core.Path.{◌≡◌, refl}
use mathlib.Core.List.{List, [], ◌∷◌, map}
use mathlib.Core.Bool.{true, false}
use Prim.Native.Nat.{ℕ}
use Rattle.subjects.specs.Authorities.{is_number_from_one, is_numbered, names_authority}
use Rattle.texts.specs.Texts.{word}
use Rattle.octets.specs.Characters.{are_digits}
use Rattle.octets.specs.Same.{same_by}

pub numbers : map is_number_from_one (word "1" ∷ word "10" ∷ word "18446744073709551616" ∷ word "" ∷ word "0" ∷ word "01" ∷ word "1 " ∷ word "1a" ∷ [])
    ≡ (true ∷ true ∷ true ∷ false ∷ false ∷ false ∷ false ∷ false ∷ [])
unfolding is_number_from_one are_digits word
numbers = refl

abbrev names : List (List ℕ)
names =
    word "US Federal TLS CA 1"
    ∷ word "US Federal Test TLS CA 20"
    ∷ []

-- a leading zero; 0; no number; a space behind it; words cut short; other case; other words; a number by itself
abbrev others : List (List ℕ)
others =
    word "US Federal TLS CA 01"
    ∷ word "US Federal TLS CA 0"
    ∷ word "US Federal TLS CA "
    ∷ word "US Federal TLS CA 1 "
    ∷ word "US Federal TLS CA"
    ∷ word "US Federal TLS CA1"
    ∷ word "US Federal TLS CA  1"
    ∷ word "US federal TLS CA 1"
    ∷ word "US Federal Test CA 1"
    ∷ word "1"
    ∷ word ""
    ∷ []

pub named : map (λ (text : List ℕ). names_authority text) names ≡ map (λ (text : List ℕ). true) names
unfolding is_numbered is_number_from_one are_digits same_by word
named = refl

pub not_named : map (λ (text : List ℕ). names_authority text) others ≡ map (λ (text : List ℕ). false) others
unfolding is_numbered is_number_from_one are_digits same_by word
not_named = refl
