-- X.690's own examples, by computation: each tree encodes to its octets, and these read back as the tree and are sound. Assumes nothing.
use mathlib.Core.Path.{◌≡◌, refl}
use mathlib.Core.List.{[], ◌∷◌, map}
use Rattle.trees.specs.Numbers.{number_by}
use Rattle.trees.specs.Values.{type_number, contents, integer_octets, bit_string_octets, packed, unused}
use Rattle.trees.specs.Trees.{length_octets, element, encode}
use Rattle.trees.specs.Reading.{trees_of, tree_of, parse}
use Rattle.trees.specs.Examples.{TreeExample, tree_examples}
use Rattle.octets.specs.Octets.{octets_from}
use Rattle.texts.specs.Texts.{word}
use Rattle.octets.specs.Numbers.{number_from}
use Rattle.der.specs.Header.{head_of, children_of, children_by}
use Rattle.der.specs.Contents.{arcs_ok, primitive_ok, element_ok}
use Rattle.der.specs.Oids.{sevens, subidentifier, subidentifiers, oid}
use Rattle.der.specs.Order.{octets_le, ascend_from}
use Rattle.der.specs.Elements.{elements_of}
use Rattle.der.specs.Soundness.{first, soundness, stretch_soundness, der_soundness}
use Rattle.std.specs.Prelude.{Ok}

pub encoded : map (λ (e : TreeExample). encode e.tree) tree_examples ≡ map (λ (e : TreeExample). e.octets) tree_examples
unfolding tree_examples word encode element length_octets number_by type_number contents integer_octets bit_string_octets packed unused oid subidentifiers
    subidentifier sevens
encoded = refl

pub parsed : map (λ (e : TreeExample). parse e.octets) tree_examples ≡ map (λ (e : TreeExample). e.tree) tree_examples
unfolding tree_examples word parse tree_of trees_of head_of children_of children_by octets_from number_from number_by type_number contents integer_octets bit_string_octets
    packed unused oid subidentifiers subidentifier sevens
parsed = refl

pub judged : map (λ (e : TreeExample). der_soundness e.octets) tree_examples ≡ map (λ (e : TreeExample). Ok tt) tree_examples
unfolding tree_examples word stretch_soundness soundness first elements_of element_ok primitive_ok arcs_ok ascend_from octets_le head_of children_of children_by
    octets_from number_from
judged = refl

-- 8.1.3.4 and 8.1.3.5: a length of 38 takes one octet, 201 one more; and beside X.690's own, 127, 300 and 65,536
pub lengths : map length_octets (38 ∷ 201 ∷ 127 ∷ 300 ∷ 65536 ∷ [])
    ≡ (0x26 ∷ []) ∷ (0x81 ∷ 0xC9 ∷ []) ∷ (0x7F ∷ []) ∷ (0x82 ∷ 0x01 ∷ 0x2C ∷ []) ∷ (0x83 ∷ 0x01 ∷ 0x00 ∷ 0x00 ∷ []) ∷ []
unfolding length_octets number_by
lengths = refl

-- an extension's identifier, 2.5.29.35
pub key_identifier : oid (2 ∷ 5 ∷ 29 ∷ 35 ∷ []) ≡ 0x55 ∷ 0x1D ∷ 0x23 ∷ []
unfolding oid subidentifiers subidentifier sevens
key_identifier = refl
