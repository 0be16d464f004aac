-- Octets read back as a tree, by the headers and lists of elements that the linter goes by.
use Rattle.std.specs.Prelude.{List, [], ◌∷◌, cond, ℕ, zero, suc, ◌/◌, length}
use Rattle.trees.specs.Trees.{Class, universal, application, context_specific, private, Tag, Tree, Trees, primitive, constructed, nothing, ◌then◌}
use Rattle.der.specs.Tags.{tag_number}
use Rattle.der.specs.Header.{head_of, children_of}
use Rattle.der.specs.Contents.{constructed as is_constructed, contents_of}
use Rattle.der.specs.declared.header.Head.{Head}

abbrev pub class_of : ℕ → Class
class_of zero = universal
class_of (suc zero) = application
class_of (suc (suc zero)) = context_specific
class_of (suc (suc (suc n))) = private

abbrev pub tag_of : ℕ → Tag
tag_of identifier = record { class = class_of (identifier / 64); number = tag_number identifier }

unfoldable pub trees_of : (Head → Tree) → List Head → Trees
trees_of f [] = nothing
trees_of f (h ∷ hs) = f h then trees_of f hs

-- the tree of an element, down to as many levels as there are (below them contents are taken as they are)
unfoldable pub tree_of : List ℕ → ℕ → Head → Tree
tree_of s zero h = primitive (tag_of h.tag) (contents_of s h)
tree_of s (suc levels) h =
    cond (is_constructed h.tag)
    (constructed (tag_of h.tag) (trees_of (tree_of s levels) (children_of s h.body h.end)))
    (primitive (tag_of h.tag) (contents_of s h))

-- no tree has more levels than octets
unfoldable pub parse : List ℕ → Tree
parse s = tree_of s (length s) (head_of s 0 (length s))
