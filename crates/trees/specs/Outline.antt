-- The outline of octets: a line for each element, as the walk meets it, and as the tree has it.
use Rattle.std.specs.Prelude.{List, [], ◌∷◌, ◌++◌, map, ℕ, suc, ◌+◌, ◌-◌, ◌≤◌, length}
use Rattle.trees.specs.Trees.{Tree, Trees, primitive, constructed, nothing, ◌then◌, identifier_octet, encode, encode_all}
use Rattle.der.specs.Header.{head_of}
use Rattle.der.specs.Elements.{Node, elements_of}

-- an element: its depth (the outermost has 1), its start, its identifier octet and its whole length
pub record Line : Type 0 where
  pub depth : ℕ
  pub start : ℕ
  pub identifier : ℕ
  pub size : ℕ

-- ---- as the walk meets it: the outermost element has 16 levels left, one at depth 16 has one

abbrev pub line_of : Node → Line
line_of n = record { depth = 17 - n.levels; start = n.head.at; identifier = n.head.tag; size = n.head.end - n.head.at }

unfoldable pub outline_of : List ℕ → List Line
outline_of s = map line_of (elements_of s 16 (head_of s 0 (length s)))

-- ---- as the tree has it: each element once, outer before inner

unfoldable mutual
  pub outline : Tree → ℕ → ℕ → List Line
  outline (primitive tag contents) depth start =
      record { depth = depth; start = start; identifier = identifier_octet 0 tag; size = length (encode (primitive tag contents)) } ∷ []
  outline (constructed tag ts) depth start =
      record { depth = depth; start = start; identifier = identifier_octet 1 tag; size = length (encode (constructed tag ts)) }
      ∷ outline_all ts (suc depth) (start + (length (encode (constructed tag ts)) - length (encode_all ts)))

  pub outline_all : Trees → ℕ → ℕ → List Line
  outline_all nothing depth start = []
  outline_all (t then ts) depth start = outline t depth start ++ outline_all ts depth (start + length (encode t))

-- the starts rise from `from` on, so that no element comes twice, and no element ends after `to`
unfoldable pub Rises : ℕ → ℕ → List Line → Type 0
Rises from to [] = Unit {0}
Rises from to (l ∷ ls) = (from ≤ l.start) × (l.start + l.size ≤ to) × Rises (suc l.start) to ls
