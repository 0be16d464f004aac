-- Policies below an arc.
--     policy_law      the policy of a PolicyInformation, by what is read of it
-- Assumes nothing.
use mathlib.Core.Path.{◌≡◌, refl, sym, ap}
use mathlib.Core.List.{List, [], ◌∷◌}
use mathlib.Core.Bool.{Bool, true, false, ◌&&◌}
use Prim.Native.Nat.{ℕ, zero, suc, ◌+◌, ◌-◌, ◌≤◌, ◌<◌}
use native.Mathlib.Omega.{arith}
use lib.ListN.{length}
use lib.Dec.{ltb, eqb}
use borrow.Author.Tests.{ltb-true, ltb-false}
use Rattle.policies.specs.Policies.{is_below, federal_arc, policy_below}
use Rattle.octets.specs.Octets.{octet_at, octets_from}
use Rattle.octets.specs.Same.{same_by, exactly}
use Rattle.der.specs.Members.{first_in}
use Rattle.der.specs.Oids.{sevens, subidentifier, subidentifiers, oid}
use Rattle.der.specs.declared.header.Head.{Head}

-- with more octets than the arc has, the first ones decide
below_long : (arc s : List ℕ) (a n : ℕ) → length arc < n → same_by exactly (octets_from s a (length arc)) arc ≡ is_below arc (octets_from s a n)
unfolding octets_from same_by is_below
below_long arc s a zero h = absurd (omega arith)
below_long [] s a (suc n) h = refl
below_long (x ∷ arc) s a (suc n) h = ap (λ (t : Bool). eqb (octet_at s a) x && t) (below_long arc s (a + 1) n (omega arith))

below_short : (arc s : List ℕ) (a n : ℕ) → n ≤ length arc → is_below arc (octets_from s a n) ≡ false
unfolding octets_from is_below
below_short [] s a zero h = refl
below_short [] s a (suc n) h = absurd (omega arith)
below_short (x ∷ arc) s a zero h = refl
below_short (x ∷ arc) s a (suc n) h = rw (below_short arc s (a + 1) n (omega arith)) (and_no (eqb (octet_at s a) x))
  where
    and_no : (b : Bool) → (b && false) ≡ false
    and_no true = refl
    and_no false = refl

below_law : (arc s : List ℕ) (a n : ℕ) → (ltb (length arc) n && same_by exactly (octets_from s a (length arc)) arc) ≡ is_below arc (octets_from s a n)
below_law arc s a n = go (ltb (length arc) n) refl
  where
    go : (b : Bool) → ltb (length arc) n ≡ b → (b && same_by exactly (octets_from s a (length arc)) arc) ≡ is_below arc (octets_from s a n)
    go true e = below_long arc s a n (ltb-true (length arc) n e)
    go false e = sym (below_short arc s a n (ltb-false (length arc) n e))

pub policy_law : (s : List ℕ) (h policy : Head) (n : ℕ) (begins : Bool) → policy ≡ first_in s h → n ≡ policy.end - policy.body
    → begins ≡ same_by exactly (octets_from s policy.body 9) federal_arc → (ltb 9 n && begins) ≡ policy_below s h
unfolding policy_below oid subidentifiers subidentifier sevens
policy_law s h policy n begins e f g = rw (g, f, ← e) (below_law federal_arc s policy.body (policy.end - policy.body))
