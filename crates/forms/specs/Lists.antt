-- Lists of items within items.
use Rattle.std.specs.Prelude.{List, [], ◌∷◌, ◌++◌, map, ℕ}
use Rattle.forms.specs.declared.items.Items.{Items}
use Rattle.forms.specs.declared.items.Items.TheVariants.{Members, Within}
use Rattle.forms.specs.declared.nests.Nest.{Nest}
use Rattle.forms.specs.declared.nests.Nest.TheVariants.{Set, Policy, Point}
use Rattle.der.specs.Header.{children_of}
use Rattle.der.specs.Members.{members_in}
use Rattle.der.specs.declared.header.Head.{Head}
use Rattle.policies.specs.Policies.{qualifiers_of}
use Rattle.locations.specs.Points.{full_name_of}

-- the part of an element that holds the items: the attributes of a SET, the qualifiers of a policy, the names of a point's full name
abbrev pub holder_in : Nest → List ℕ → Head → Head
holder_in Set s h = h
holder_in Policy s h = qualifiers_of s h
holder_in Point s h = full_name_of s h

-- the members of each of the elements, in the order of the encoding
unfoldable pub members_of_each : List ℕ → List Head → List Head
members_of_each s [] = []
members_of_each s (h ∷ hs) = members_in s h ++ members_of_each s hs

-- the items within the elements from place at to end
unfoldable pub items_within : Nest → List ℕ → ℕ → ℕ → List Head
items_within nest s at end = members_of_each s (map (holder_in nest s) (children_of s at end))

-- the items that a rule looks at: the members of a list, or the items within them
abbrev pub list_of : Items → Head
list_of (Members list) = list
list_of (Within nest list) = list

abbrev pub items_of : Items → List ℕ → List Head
items_of (Members list) s = members_in s list
items_of (Within nest list) s = items_within nest s list.body list.end

-- the attributes of a name "in the order of the encoding, across and inside sets"
abbrev pub attributes_in : List ℕ → Head → List Head
attributes_in s name = items_within Set s name.body name.end
