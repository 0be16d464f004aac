-- How the walk puts its answer together.
-- How the code goes about it: named by contracts of functions that no other crate can call, and by nothing else of `specs/`.
use Rattle.std.specs.Prelude.{List, map, Bool, true, false, not, ◌||◌, ℕ, Ok, Err}
use Rattle.der.specs.Header.{children_of}
use Rattle.der.specs.Order.{ascending, octets_of}
use Rattle.der.specs.Elements.{Node, joined, elements_of}
use Rattle.der.specs.declared.walk.Fault.TheVariants.{Unsound, Unordered}
use Rattle.der.specs.Soundness.{Soundness, soundness}

-- the members of a list and all that they hold
abbrev pub members_of : List ℕ → ℕ → ℕ → ℕ → List Node
members_of s levels at end = joined (elements_of s levels) (children_of s at end)

-- what two lists of elements give, one behind the other
abbrev pub and_then : Soundness → Soundness → Soundness
and_then (Ok _) b = b
and_then (Err (Unsound p)) b = Err (Unsound p)
and_then (Err (Unordered p)) (Ok _) = Err (Unordered p)
and_then (Err (Unordered p)) (Err (Unsound q)) = Err (Unsound q)
and_then (Err (Unordered p)) (Err (Unordered q)) = Err (Unordered p)

-- what the order of its members says of the element at place at
abbrev pub in_order : Bool → ℕ → Soundness
in_order true at = Ok tt
in_order false at = Err (Unordered at)

-- the list from body to end that an element at place at holds: its order, if the element is a SET, and then its members
abbrev pub sound_list : List ℕ → ℕ → ℕ → Bool → ℕ → ℕ → Soundness
sound_list s levels at set body end =
    and_then (in_order (not set || ascending (map (octets_of s) (children_of s body end))) at)
    (soundness s (members_of s levels body end))
