-- "Spoil any set of its blocks where they stand, so that each spoiled block fails its check" (document 00, demand 3).
use Rattle.std.specs.Prelude.{Bool, true, false, ◌⊎◌, List, [], ◌∷◌, ◌≡◌, ℕ, length}
use Rattle.blocks.specs.Tests.{◌and◌}
use Rattle.blocks.specs.Block.{sound}
use Rattle.reader.specs.Runs.{block_at}

-- a deck as it was, and as it is: as long, and each block is as it was or fails its check
pub record Spoiled (was deck : List ℕ) : Type 0 where
  pub as_long : length deck ≡ length was
  pub each : (position : ℕ) → (block_at deck position ≡ block_at was position) ⊎ (sound (block_at deck position) ≡ false)

-- none of the blocks fails its check: as the writer's blocks are sound, none was spoiled
abbrev pub all_sound : List (List ℕ) → Bool
all_sound [] = true
all_sound (b ∷ bs) = sound b and all_sound bs
