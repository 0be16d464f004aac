-- Texts as lists of octets: words, and numbers in decimal.
use Rattle.std.specs.Prelude.{List, [], ◌∷◌, ◌++◌, true, false, ℕ, zero, suc, ◌/◌, ◌%◌, ltb}
use Prim.Native.Char.{code}
use Prim.Native.String.{String, [] as none, ◌∷◌ as ◌then◌}
use Rattle.octets.specs.Characters.{digit_for}

-- the characters of a text, all of ASCII, as octets
unfoldable pub word : String → List ℕ
word none = []
word (c then s) = code c ∷ word s

-- the digits of a number, of which there are at most `most`
unfoldable pub digits_by : ℕ → ℕ → List ℕ
digits_by zero n = []
digits_by (suc most) n = elim (ltb n 10) [ true ↦ digit_for n ∷ [] | false ↦ digits_by most (n / 10) ++ (digit_for (n % 10) ∷ []) ]

-- a number in decimal, which has fewer digits than it counts
unfoldable pub decimal : ℕ → List ℕ
decimal n = digits_by (suc n) n

-- a word, and a number behind it
abbrev pub field_of : String → ℕ → List ℕ
field_of w n = word w ++ decimal n
