-- Worked examples of rules 401 to 403, by computation: what each value says is beside it. Assumes nothing.
use mathlib.Core.Path.{◌≡◌, refl}
use mathlib.Core.List.{List, [], ◌∷◌, map}
use mathlib.Core.Bool.{Bool, true, false}
use Prim.Native.Nat.{ℕ}
use Rattle.std.specs.Prelude.{Option, Some, None}
use lib.ListN.{length}
use Rattle.rules_values.specs.Identifiers.{is_held_by, is_filled, is_twenty}
use Rattle.octets.specs.Octets.{octets_from}
use Rattle.octets.specs.Numbers.{number_from}
use Rattle.octets.specs.Same.{same_by}
use Rattle.der.specs.Header.{head_of}
use Rattle.der.specs.declared.header.Head.{Head}

-- what is said, and what is right
pub record Example : Type 0 where
  pub said : Bool
  pub right : Bool

abbrev is : Bool → Bool → Example
is b r = record { said = b; right = r }

-- the element that a value's octets are
abbrev whole : List ℕ → Head
whole s = head_of s 0 (length s)

-- an authority key id, and the issuer's key identifier
abbrev held : List ℕ → Option (List ℕ) → Bool
held s key = is_held_by s (whole s) key

abbrev key : Option (List ℕ)
key = Some (1 ∷ 2 ∷ [])

unfoldable pub identifiers : List Example
identifiers =
    -- the same key; another; one octet more; an issuer without
    is (held (0x30 ∷ 4 ∷ 0x80 ∷ 2 ∷ 1 ∷ 2 ∷ []) key) true
    ∷ is (held (0x30 ∷ 4 ∷ 0x80 ∷ 2 ∷ 1 ∷ 3 ∷ []) key) false
    ∷ is (held (0x30 ∷ 5 ∷ 0x80 ∷ 3 ∷ 1 ∷ 2 ∷ 0 ∷ []) key) false
    ∷ is (held (0x30 ∷ 4 ∷ 0x80 ∷ 2 ∷ 1 ∷ 2 ∷ []) None) false
    -- no member; a serial alone
    ∷ is (held (0x30 ∷ 0 ∷ []) (Some [])) false
    ∷ is (held (0x30 ∷ 4 ∷ 0x82 ∷ 2 ∷ 1 ∷ 2 ∷ []) key) false
    -- basic constraints empty; with cA
    ∷ is (is_filled (whole (0x30 ∷ 0 ∷ []))) false
    ∷ is (is_filled (whole (0x30 ∷ 3 ∷ 1 ∷ 1 ∷ 255 ∷ []))) true
    -- a subject key id of 20 octets, and of 19
    ∷ is (is_twenty (whole (4 ∷ 20 ∷ octets_from [] 0 20))) true
    ∷ is (is_twenty (whole (4 ∷ 19 ∷ octets_from [] 0 19))) false
    ∷ []

pub identifiers_right : map (λ (e : Example). e.said) identifiers ≡ map (λ (e : Example). e.right) identifiers
unfolding identifiers is_held_by same_by head_of octets_from number_from
identifiers_right = refl
