-- Key identifiers.
--     held_by_none, held_by_lem      rule 401's test, where the issuer has no key identifier and by what is read of both
-- Assumes nothing.
use mathlib.Core.Path.{◌≡◌, refl}
use mathlib.Core.List.{List}
use mathlib.Core.Bool.{Bool, true, false, ◌&&◌}
use Prim.Native.Nat.{ℕ}
use Rattle.std.specs.Prelude.{Some, None}
use Rattle.std.specs.Bool.{then_some}
use lib.Dec.{eqb}
use Rattle.rules_values.specs.Identifiers.{same_key, is_held_by}
use Rattle.octets.specs.Same.{same_by, exactly}
use Rattle.der.specs.Contents.{contents_of}
use Rattle.der.specs.Members.{first_in}
use Rattle.der.specs.Comparing.{contents_are, same_contents}
use Rattle.der.specs.declared.header.Head.{Head}
use Rattle.certificate.specs.Issuer.{key_identifier_of}

none_there : (a : Bool) (x : List ℕ) → false ≡ same_key (then_some a x) None
none_there true x = refl
none_there false x = refl

both_there : (a : Bool) (x y : List ℕ) → (a && same_by exactly x y) ≡ same_key (then_some a x) (Some y)
both_there true x y = refl
both_there false x y = refl

module _ (s i : List ℕ) (v : Head) where
  pub held_by_none : false ≡ is_held_by s v (key_identifier_of i None)
  unfolding is_held_by
  held_by_none = none_there (eqb (first_in s v).tag 128) (contents_of s (first_in s v))

  pub held_by_lem : (key member : Head) (same : Bool) → member ≡ first_in s v → same ≡ same_contents s member i key
      → (eqb member.tag 128 && same) ≡ is_held_by s v (key_identifier_of i (Some key))
  unfolding is_held_by contents_are
  held_by_lem key member same e f = rw (f, e) (both_there (eqb (first_in s v).tag 128) (contents_of s (first_in s v)) (contents_of i key))
