-- The two forms of rules on lists: "'Each' gives one entry an item, without a verb an offending one; 'one X' gives an entry at the subject
-- name if none, and at each further X" (document 01, "Rules on fields").
use Rattle.std.specs.Prelude.{List, [], ◌∷◌, Bool, cond}
use Rattle.der.specs.declared.header.Head.{Head}

-- the items that a test picks, in their order
unfoldable pub filter : (Head → Bool) → List Head → List Head
filter test [] = []
filter test (h ∷ hs) = cond (test h) (h ∷ filter test hs) (filter test hs)

-- "one X", of the items that are X: the name if there is none, and each but the first
unfoldable pub ones_of : Head → List Head → List Head
ones_of name [] = name ∷ []
ones_of name (h ∷ hs) = hs
