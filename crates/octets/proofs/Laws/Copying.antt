-- Octets copied from one list into another.
--     copied_inside, copied_else     the test that decides has passed, or failed
--     copied_paste                   where both lists have the octets, they are pasted
-- Assumes nothing.
use mathlib.Core.Path.{◌≡◌}
use mathlib.Core.List.{List}
use mathlib.Core.Bool.{Bool, true, false, ◌&&◌}
use Prim.Native.Nat.{ℕ, ◌+◌, ◌≤◌}
use lib.Dec.{leb}
use lib.ListN.{length, drop}
use lib.Seq.{paste}
use borrow.Author.Tests.{leb-true, le-leb}
use Rattle.octets.specs.Copying.{copied}
use Rattle.octets.proofs.Laws.Tests.{and_l, and_r}

module _ (s : List ℕ) (from n : ℕ) (out : List ℕ) (at : ℕ) where
  pub copied_paste : from + n ≤ length s → at + n ≤ length out → copied s from n out at ≡ paste out at (drop from s) n
  unfolding copied
  copied_paste h k = rw (le-leb (from + n) (length s) h, le-leb (at + n) (length out) k)

  module _ (a b : Bool) (e : a ≡ leb (from + n) (length s)) (f : b ≡ leb (at + n) (length out)) where
    pub copied_inside : (a && b) ≡ true → (from + n ≤ length s) × (at + n ≤ length out)
    copied_inside t =
        (leb-true (from + n) (length s) (rw e at (and_l a b t)), leb-true (at + n) (length out) (rw f at (and_r a b t)))

    pub copied_else : (a && b) ≡ false → copied s from n out at ≡ out
    unfolding copied
    copied_else t = rw (← e, ← f, t)
