-- Worked examples of the definitions, by computation: what each value says is beside it. Assumes nothing.
use mathlib.Core.Path.{◌≡◌, refl}
use mathlib.Core.List.{List, [], ◌∷◌}
use mathlib.Core.Bool.{Bool, true, false}
use Prim.Native.Nat.{ℕ}
use lib.ListN.{length}
use Rattle.policies.specs.Policies.{is_below, policy_below, federal_policy_arc, forum_arc, qualifiers_of, other_qualifier}
use Rattle.octets.specs.Octets.{octets_from}
use Rattle.octets.specs.Same.{same_by}
use Rattle.octets.specs.Numbers.{number_from}
use Rattle.der.specs.Arcs.{arc_below}
use Rattle.der.specs.Comparing.{contents_are}
use Rattle.der.specs.Header.{head_of}
use Rattle.der.specs.Members.{first_in}
use Rattle.der.specs.Oids.{sevens, subidentifier, subidentifiers, oid}
use Rattle.der.specs.declared.header.Head.{Head}

-- the element that a value's octets are
abbrev whole : List ℕ → Head
whole s = head_of s 0 (length s)

abbrev below : List ℕ → Bool
below s = policy_below s (whole s)

abbrev federal : List ℕ → ℕ
federal s = federal_policy_arc s (whole s)

abbrev forum : List ℕ → ℕ
forum s = forum_arc s (whole s)

-- the first qualifier
abbrev qualifier : List ℕ → Bool
qualifier s = other_qualifier s (first_in s (qualifiers_of s (whole s)))

-- one policy with one qualifier, by its last arc, whose value is NULL
abbrev qualified : ℕ → List ℕ
qualified last = 0x30 ∷ 19 ∷ 6 ∷ 1 ∷ 42 ∷ 0x30 ∷ 14 ∷ 0x30 ∷ 12 ∷ 6 ∷ 8 ∷ 0x2B ∷ 6 ∷ 1 ∷ 5 ∷ 5 ∷ 7 ∷ 2 ∷ last ∷ 5 ∷ 0 ∷ []

-- the arc alone; with one octet more (P8)
pub below_right : (below (0x30 ∷ 11 ∷ 6 ∷ 9 ∷ 0x60 ∷ 0x86 ∷ 0x48 ∷ 1 ∷ 0x65 ∷ 3 ∷ 2 ∷ 1 ∷ 3 ∷ []) ∷ below
    (0x30 ∷ 12 ∷ 6 ∷ 10 ∷ 0x60 ∷ 0x86 ∷ 0x48 ∷ 1 ∷ 0x65 ∷ 3 ∷ 2 ∷ 1 ∷ 3 ∷ 0x0D ∷ []) ∷ []) ≡ (false ∷ true ∷ [])
unfolding policy_below is_below head_of octets_from number_from oid subidentifiers subidentifier sevens
below_right = refl

-- the arc alone; 13 below it; below that; another policy; an arc that takes two octets, 128
pub federal_right : (federal (0x30 ∷ 11 ∷ 6 ∷ 9 ∷ 0x60 ∷ 0x86 ∷ 0x48 ∷ 1 ∷ 0x65 ∷ 3 ∷ 2 ∷ 1 ∷ 3 ∷ []) ∷ federal
    (0x30 ∷ 12 ∷ 6 ∷ 10 ∷ 0x60 ∷ 0x86 ∷ 0x48 ∷ 1 ∷ 0x65 ∷ 3 ∷ 2 ∷ 1 ∷ 3 ∷ 13 ∷ []) ∷ federal
    (0x30 ∷ 13 ∷ 6 ∷ 11 ∷ 0x60 ∷ 0x86 ∷ 0x48 ∷ 1 ∷ 0x65 ∷ 3 ∷ 2 ∷ 1 ∷ 3 ∷ 13 ∷ 1 ∷ []) ∷ federal
    (0x30 ∷ 12 ∷ 6 ∷ 10 ∷ 0x60 ∷ 0x86 ∷ 0x48 ∷ 1 ∷ 0x65 ∷ 3 ∷ 2 ∷ 1 ∷ 4 ∷ 13 ∷ []) ∷ federal
    (0x30 ∷ 13 ∷ 6 ∷ 11 ∷ 0x60 ∷ 0x86 ∷ 0x48 ∷ 1 ∷ 0x65 ∷ 3 ∷ 2 ∷ 1 ∷ 3 ∷ 0x81 ∷ 0 ∷ []) ∷ []) ≡ (0 ∷ 13 ∷ 0 ∷ 0 ∷ 0 ∷ [])
unfolding arc_below head_of octets_from number_from oid subidentifiers subidentifier sevens
federal_right = refl

-- a practice statement; a user notice; no qualifiers
pub qualifiers_right : (qualifier (qualified 1) ∷ qualifier (qualified 2) ∷ (qualifiers_of (0x30 ∷ 3 ∷ 6 ∷ 1 ∷ 42 ∷ [])
    (whole (0x30 ∷ 3 ∷ 6 ∷ 1 ∷ 42 ∷ []))).sound ∷ []) ≡ (false ∷ true ∷ false ∷ [])
unfolding other_qualifier contents_are same_by head_of octets_from number_from oid subidentifiers subidentifier sevens
qualifiers_right = refl

-- domain validation; 2.23.140.1.2 itself; an arc below domain validation; another policy
pub forum_right : (forum (0x30 ∷ 8 ∷ 6 ∷ 6 ∷ 0x67 ∷ 0x81 ∷ 0x0C ∷ 1 ∷ 2 ∷ 1 ∷ []) ∷ forum (0x30 ∷ 7 ∷ 6 ∷ 5 ∷ 0x67 ∷ 0x81 ∷ 0x0C ∷ 1 ∷ 2 ∷ []) ∷ forum
    (0x30 ∷ 9 ∷ 6 ∷ 7 ∷ 0x67 ∷ 0x81 ∷ 0x0C ∷ 1 ∷ 2 ∷ 1 ∷ 1 ∷ []) ∷ forum (0x30 ∷ 3 ∷ 6 ∷ 1 ∷ 42 ∷ []) ∷ []) ≡ (1 ∷ 0 ∷ 0 ∷ 0 ∷ [])
unfolding arc_below head_of octets_from number_from oid subidentifiers subidentifier sevens
forum_right = refl
