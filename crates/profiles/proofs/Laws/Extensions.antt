-- Columns of the table of extensions.
--     unlisted     slot 0, and those past the table
-- Assumes nothing.
use mathlib.Core.Path.{◌≡◌, refl, sym}
use mathlib.Core.List.{List, ◌∷◌}
use Prim.Native.Nat.{ℕ, zero, suc, ◌≤◌, ◌<◌}
use native.Mathlib.Omega.{arith}
use lib.ListN.{length, get_or-eq_default}
use Rattle.profiles.specs.Extensions.{mark_in}
use Rattle.profiles.specs.declared.extensions.Mark.{Mark}
use Rattle.profiles.specs.declared.extensions.Mark.TheVariants.{Unlisted}

pub unlisted : (column : List Mark) (slot : ℕ) → (0 < slot → length column < slot) → Unlisted ≡ mark_in column slot
unlisted column zero past = refl
unlisted column (suc k) past =
    let l : length column < suc k = past (omega arith) in
    let m : length (Unlisted ∷ column) ≤ suc k = omega arith in
    sym (get_or-eq_default (Unlisted ∷ column) Unlisted m)
