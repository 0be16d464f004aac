-- Rule 120's test, which is made only where the rule is judged and there is a CN.
--     unnamed_asked, unnamed_unasked      where it is made, and where it is not
-- Assumes nothing.
use mathlib.Core.Path.{◌≡◌, refl}
use mathlib.Core.List.{List}
use mathlib.Core.Bool.{Bool, true, false, not, ◌&&◌}
use Prim.Native.Nat.{ℕ}
use Rattle.rules_subject.specs.CommonName.{is_unnamed}
use Rattle.octets.proofs.Laws.Tests.{and_l, and_r}
use Rattle.der.specs.Contents.{contents_of}
use Rattle.der.specs.Elements.{is_empty}
use Rattle.der.specs.Members.{members_in}
use Rattle.der.specs.declared.header.Head.{Head}
use Rattle.subjects.specs.Types.{attribute_value}
use Rattle.hosts.specs.Names.{some_named}

module _ (judged : Bool) (s : List ℕ) (cn alternative : Head) (none : Bool) (n : none ≡ is_empty cn) where
  pub unnamed_asked :
      {some : Bool} → (judged && not none) ≡ true → some ≡ some_named s (contents_of s (attribute_value s cn)) (members_in s alternative)
      → not some ≡ (judged && is_unnamed s cn alternative)
  unfolding is_unnamed
  unnamed_asked t e = rw (← n, and_l judged (not none) t, and_r judged (not none) t, e)

  pub unnamed_unasked : (judged && not none) ≡ false → false ≡ (judged && is_unnamed s cn alternative)
  unfolding is_unnamed
  unnamed_unasked t = rw (← n) (go judged (not none) t)
    where
      rest : Bool
      rest = not (some_named s (contents_of s (attribute_value s cn)) (members_in s alternative))

      go : (a b : Bool) → (a && b) ≡ false → false ≡ (a && (b && rest))
      go true b t = rw t
      go false b t = refl
