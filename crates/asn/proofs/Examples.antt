-- Worked examples of the definitions, by computation: what each judges is said beside it. Assumes nothing.
use mathlib.Core.Path.{◌≡◌, refl}
use mathlib.Core.List.{List, [], ◌∷◌, map}
use Prim.Native.Nat.{ℕ}
use lib.ListN.{length}
use Rattle.asn.specs.Grammar.{Form, fits, Verdict}
use Rattle.asn.specs.Module.{explicit, attribute_type_and_value, relative_distinguished_name, name, extension, extensions, version}
use Rattle.asn.specs.Module.{other_name, general_name, general_names, distribution_point_name, distribution_point, crl_distribution_points}
use Rattle.asn.specs.Module.{general_subtree, general_subtrees, name_constraints, judged, value_of}
use Rattle.asn.specs.Answers.{only_element}
use Rattle.octets.specs.Octets.{octets_from}
use Rattle.der.specs.Header.{head_of, children_of, children_by}
use Rattle.der.specs.Contents.{arcs_ok}
use Rattle.der.specs.Order.{octets_le, ascend_from}
use Rattle.asn.specs.declared.fitting.Misfit.TheVariants.{Wrong}
use Rattle.std.specs.Prelude.{Ok, Err}

pub record Example : Type 0 where
  pub type : Form
  pub octets : List ℕ
  pub verdict : Verdict

abbrev is : Form → List ℕ → Verdict → Example
is f s v = record { type = f; octets = s; verdict = v }

unfoldable pub table : List Example
table =
    -- an empty extension list, at that SEQUENCE; an empty [3], at the [3]
    is (explicit 3 extensions) (0xA3 ∷ 2 ∷ 0x30 ∷ 0 ∷ []) (Err (Wrong 2))
    ∷ is (explicit 3 extensions) (0xA3 ∷ 0 ∷ []) (Err (Wrong 0))
    -- version 0, at the INTEGER; versions 1 and 2
    ∷ is (explicit 0 version) (0xA0 ∷ 3 ∷ 2 ∷ 1 ∷ 0 ∷ []) (Err (Wrong 2))
    ∷ is (explicit 0 version) (0xA0 ∷ 3 ∷ 2 ∷ 1 ∷ 1 ∷ []) (Ok tt)
    ∷ is (explicit 0 version) (0xA0 ∷ 3 ∷ 2 ∷ 1 ∷ 2 ∷ []) (Ok tt)
    -- critical FALSE, at the BOOLEAN; TRUE
    ∷ is extensions (0x30 ∷ 10 ∷ 0x30 ∷ 8 ∷ 6 ∷ 1 ∷ 42 ∷ 1 ∷ 1 ∷ 0 ∷ 4 ∷ 0 ∷ []) (Err (Wrong 7))
    ∷ is extensions (0x30 ∷ 10 ∷ 0x30 ∷ 8 ∷ 6 ∷ 1 ∷ 42 ∷ 1 ∷ 1 ∷ 255 ∷ 4 ∷ 0 ∷ []) (Ok tt)
    -- GeneralNames is not empty, and has no form [9]
    ∷ is general_names (0x30 ∷ 0 ∷ []) (Err (Wrong 0))
    ∷ is general_names (0x30 ∷ 5 ∷ 0x82 ∷ 1 ∷ 0x61 ∷ 0x89 ∷ 0 ∷ []) (Err (Wrong 5))
    -- a CRL point by a full name, by a relative name, by reasons, by an issuer, and by nothing
    ∷ is crl_distribution_points (0x30 ∷ 9 ∷ 0x30 ∷ 7 ∷ 0xA0 ∷ 5 ∷ 0xA0 ∷ 3 ∷ 0x86 ∷ 1 ∷ 0x68 ∷ []) (Ok tt)
    ∷ is crl_distribution_points (0x30 ∷ 13 ∷ 0x30 ∷ 11 ∷ 0xA0 ∷ 9 ∷ 0xA1 ∷ 7 ∷ 0x30 ∷ 5 ∷ 6 ∷ 1 ∷ 42 ∷ 5 ∷ 0 ∷ []) (Ok tt)
    ∷ is crl_distribution_points (0x30 ∷ 6 ∷ 0x30 ∷ 4 ∷ 0x81 ∷ 2 ∷ 5 ∷ 0xA0 ∷ []) (Ok tt)
    ∷ is crl_distribution_points (0x30 ∷ 7 ∷ 0x30 ∷ 5 ∷ 0xA2 ∷ 3 ∷ 0x82 ∷ 1 ∷ 0x61 ∷ []) (Ok tt)
    ∷ is crl_distribution_points (0x30 ∷ 2 ∷ 0x30 ∷ 0 ∷ []) (Ok tt)
    -- a relative name whose members descend, at the [1]
    ∷ is crl_distribution_points (0x30 ∷ 20 ∷ 0x30 ∷ 18 ∷ 0xA0 ∷ 16 ∷ 0xA1 ∷ 14 ∷ 0x30 ∷ 5 ∷ 6 ∷ 1 ∷ 43 ∷ 5 ∷ 0 ∷ 0x30 ∷ 5 ∷ 6 ∷ 1 ∷ 42 ∷ 5 ∷ 0 ∷ []) (Err (Wrong 6))
    -- name constraints (351): of nothing, and of an empty list, at the [0]; a subtree by a host name, and by an address of any length
    ∷ is (value_of 11) (0x30 ∷ 0 ∷ []) (Ok tt)
    ∷ is (value_of 11) (0x30 ∷ 2 ∷ 0xA0 ∷ 0 ∷ []) (Err (Wrong 2))
    ∷ is (value_of 11) (0x30 ∷ 7 ∷ 0xA0 ∷ 5 ∷ 0x30 ∷ 3 ∷ 0x82 ∷ 1 ∷ 0x61 ∷ []) (Ok tt)
    ∷ is (value_of 11) (0x30 ∷ 7 ∷ 0xA1 ∷ 5 ∷ 0x30 ∷ 3 ∷ 0x87 ∷ 1 ∷ 10 ∷ []) (Ok tt)
    -- a minimum of 0, at itself; of 1, and of 128; one longer than it need be
    ∷ is (value_of 11) (0x30 ∷ 10 ∷ 0xA0 ∷ 8 ∷ 0x30 ∷ 6 ∷ 0x82 ∷ 1 ∷ 0x61 ∷ 0x80 ∷ 1 ∷ 0 ∷ []) (Err (Wrong 9))
    ∷ is (value_of 11) (0x30 ∷ 10 ∷ 0xA0 ∷ 8 ∷ 0x30 ∷ 6 ∷ 0x82 ∷ 1 ∷ 0x61 ∷ 0x80 ∷ 1 ∷ 1 ∷ []) (Ok tt)
    ∷ is (value_of 11) (0x30 ∷ 11 ∷ 0xA0 ∷ 9 ∷ 0x30 ∷ 7 ∷ 0x82 ∷ 1 ∷ 0x61 ∷ 0x80 ∷ 2 ∷ 0 ∷ 128 ∷ []) (Ok tt)
    ∷ is (value_of 11) (0x30 ∷ 11 ∷ 0xA0 ∷ 9 ∷ 0x30 ∷ 7 ∷ 0x82 ∷ 1 ∷ 0x61 ∷ 0x80 ∷ 2 ∷ 0 ∷ 1 ∷ []) (Err (Wrong 9))
    -- a maximum of 0; a negative one
    ∷ is (value_of 11) (0x30 ∷ 10 ∷ 0xA0 ∷ 8 ∷ 0x30 ∷ 6 ∷ 0x82 ∷ 1 ∷ 0x61 ∷ 0x81 ∷ 1 ∷ 0 ∷ []) (Ok tt)
    ∷ is (value_of 11) (0x30 ∷ 10 ∷ 0xA0 ∷ 8 ∷ 0x30 ∷ 6 ∷ 0x82 ∷ 1 ∷ 0x61 ∷ 0x81 ∷ 1 ∷ 255 ∷ []) (Err (Wrong 9))
    ∷ []

pub examples : map (λ (e : Example). only_element e.type e.octets 0 (length e.octets)) table ≡ map (λ (e : Example). e.verdict) table
unfolding table fits attribute_type_and_value relative_distinguished_name name extension extensions version other_name general_name general_names
    distribution_point_name distribution_point crl_distribution_points general_subtree general_subtrees name_constraints judged value_of head_of children_of
    children_by octets_from octets_le ascend_from arcs_ok
examples = refl
