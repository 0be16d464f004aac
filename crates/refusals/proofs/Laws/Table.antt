-- What is said of every refusal's values.
--     Tabled, tabled     a number of 1 to 8, a side of 0 to 2, and no count
-- Assumes nothing.
use mathlib.Core.Path.{◌≡◌, refl}
use Prim.Native.Nat.{ℕ, ◌≤◌}
use Rattle.refusals.specs.Table.{refused}
use Rattle.refusals.specs.declared.table.Values.{Values}

pub record Tabled (v : Values) : Type 0 where
  pub numbered : 1 ≤ v.number
  pub number : v.number ≤ 8
  pub side : v.side ≤ 2
  pub countless : v ≡ refused v.number v.side v.place

pub tabled : (number side place : ℕ) → 1 ≤ number → number ≤ 8 → side ≤ 2 → Tabled (refused number side place)
tabled number side place l n s = record { numbered = l; number = n; side = s; countless = refl }
