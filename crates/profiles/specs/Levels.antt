-- "1 for must, 2 for should" (document 02, CR 3).
use Rattle.std.specs.Prelude.{ℕ}
use Rattle.profiles.specs.declared.levels.Level.{Level}
use Rattle.profiles.specs.declared.levels.Level.TheVariants.{Must, Should}

-- the number that an entry has for a level
abbrev pub level_number : Level → ℕ
level_number Must = 1
level_number Should = 2
