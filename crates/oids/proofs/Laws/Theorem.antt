-- What is said of the octets of identifiers, on their arcs. Assumes nothing.
use mathlib.Core.Path.{◌≡◌}
use mathlib.Core.List.{List}
use Prim.Native.Nat.{ℕ, ◌<◌}
use lib.ListN.{length}
use borrow.Author.Tests.{lt-ltb}
use Rattle.oids.specs.Statement.{OnArcs}
use Rattle.der.specs.Oids.{oid, oid_element}
use Rattle.trees.specs.Trees.{universal, primitive, length_octets, element, encode}
use Rattle.oids.proofs.Laws.Below.{below_arcs, arc_below_lem}

element_encodes : (arcs : List ℕ) → length (oid arcs) < 128
    → oid_element arcs ≡ encode (primitive (record { class = universal; number = 6 }) (oid arcs))
unfolding encode element length_octets
element_encodes arcs h = rw (lt-ltb (length (oid arcs)) 128 h)

pub on_arcs : OnArcs
on_arcs = record { below_arcs = below_arcs; arc_below_lem = arc_below_lem; element_encodes = element_encodes }
