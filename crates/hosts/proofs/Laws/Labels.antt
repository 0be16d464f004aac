-- The labels of a name are what its dots set apart, and nothing else.
--     labels_joined      put together with dots between them they are the name
--     labels_whole       none of them has a dot
-- Assumes nothing.
use mathlib.Core.Path.{◌≡◌, refl, ap, ◌∙◌}
use mathlib.Core.List.{List, [], ◌∷◌, ◌++◌}
use mathlib.Core.Bool.{Bool, true, false, cond, not, ◌&&◌, ◌||◌}
use Prim.Native.Nat.{ℕ, ◌≤◌}
use native.Mathlib.Omega.{arith}
use lib.ListN.{length}
use lib.Dec.{eqb}
use borrow.Author.Tests.{eqb-true}
use Rattle.octets.specs.Octets.{is_one_of}
use Rattle.hosts.specs.Hosts.{labels_from, labels_of}
use Rattle.hosts.proofs.Laws.Hosts.{labels_some}

-- a dot before each label
unfoldable pub dotted : List (List ℕ) → List ℕ
dotted [] = []
dotted (label ∷ labels) = 46 ∷ (label ++ dotted labels)

-- a dot between them
unfoldable pub joined : List (List ℕ) → List ℕ
joined [] = []
joined (label ∷ labels) = label ++ dotted labels

unfoldable pub dotless : List (List ℕ) → Bool
dotless [] = true
dotless (label ∷ labels) = not (is_one_of 46 label) && dotless labels

append_one : (cs : List ℕ) (b : ℕ) (bs : List ℕ) → ((cs ++ (b ∷ [])) ++ bs) ≡ (cs ++ (b ∷ bs))
append_one [] b bs = refl
append_one (c ∷ cs) b bs = ap (λ (l : List ℕ). c ∷ l) (append_one cs b bs)

dotted_some : (labels : List (List ℕ)) → 1 ≤ length labels → dotted labels ≡ 46 ∷ joined labels
unfolding dotted joined
dotted_some [] l = absurd (omega arith)
dotted_some (label ∷ labels) l = refl

at_end : (label : List ℕ) → joined (label ∷ []) ≡ (label ++ [])
unfolding dotted joined
at_end label = refl

at_dot : (label bs : List ℕ) → joined (labels_from [] bs) ≡ bs → joined (label ∷ labels_from [] bs) ≡ (label ++ (46 ∷ bs))
unfolding joined
at_dot label bs ih = ap (λ (cs : List ℕ). label ++ cs) (dotted_some (labels_from [] bs) (labels_some [] bs) ∙ ap (λ (cs : List ℕ). 46 ∷ cs) ih)

joined_from : (label bs : List ℕ) → joined (labels_from label bs) ≡ (label ++ bs)
unfolding labels_from
joined_from label [] = at_end label
joined_from label (b ∷ bs) = go (λ l. joined_from l bs) (eqb b 46) refl
  where
    go : ((l : List ℕ) → joined (labels_from l bs) ≡ (l ++ bs)) → (t : Bool) → eqb b 46 ≡ t
        → joined (cond t (label ∷ labels_from [] bs) (labels_from (label ++ (b ∷ [])) bs)) ≡ (label ++ (b ∷ bs))
    go ih true e = rw (eqb-true b 46 e) (at_dot label bs (ih []))
    go ih false e = ih (label ++ (b ∷ [])) ∙ append_one label b bs

pub labels_joined : (name : List ℕ) → joined (labels_of name) ≡ name
labels_joined name = joined_from [] name

has_more : (x : ℕ) (bs : List ℕ) (b : ℕ) → is_one_of x bs ≡ false → eqb b x ≡ false → is_one_of x (bs ++ (b ∷ [])) ≡ false
unfolding is_one_of
has_more x [] b e f = rw f
has_more x (c ∷ cs) b e f = go (eqb c x) (λ h. has_more x cs b h f) e
  where
    go : (t : Bool) → (is_one_of x cs ≡ false → is_one_of x (cs ++ (b ∷ [])) ≡ false) → (t || is_one_of x cs) ≡ false → (t || is_one_of x (cs ++ (b ∷ []))) ≡ false
    go true ih g = g
    go false ih g = ih g

none_dotless : (label : List ℕ) (labels : List (List ℕ)) → is_one_of 46 label ≡ false → dotless labels ≡ true → dotless (label ∷ labels) ≡ true
unfolding dotless
none_dotless label labels e f = rw (e, f)

dotless_from : (label bs : List ℕ) → is_one_of 46 label ≡ false → dotless (labels_from label bs) ≡ true
unfolding labels_from dotless is_one_of
dotless_from label [] e = rw e
dotless_from label (b ∷ bs) e = go (λ l. dotless_from l bs) (eqb b 46) refl
  where
    go : ((l : List ℕ) → is_one_of 46 l ≡ false → dotless (labels_from l bs) ≡ true) → (t : Bool) → eqb b 46 ≡ t
        → dotless (cond t (label ∷ labels_from [] bs) (labels_from (label ++ (b ∷ [])) bs)) ≡ true
    go ih true f = none_dotless label (labels_from [] bs) e (ih [] refl)
    go ih false f = ih (label ++ (b ∷ [])) (has_more 46 label b e f)

pub labels_whole : (name : List ℕ) → dotless (labels_of name) ≡ true
unfolding is_one_of
labels_whole name = dotless_from [] name refl
