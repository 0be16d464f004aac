-- What a function does that puts a text into a lent buffer.
use Rattle.std.specs.Prelude.{◌≡◌, List, ℕ, ◌+◌, min, max, length}
use Rattle.std.proofs.lemmas.List.Edits.{sets}
use Rattle.texts.specs.declared.putting.Text.{Text}

-- the place behind m octets at place n, in a buffer of so many
unfoldable pub place_after : ℕ → ℕ → ℕ → ℕ
place_after m n size = max n (min (n + m) size)

-- the buffer with the octets instead of its own from place n on, as far as it goes
unfoldable pub buffer_after : List ℕ → ℕ → List ℕ → List ℕ
buffer_after bs n out = sets out n bs

-- A function that puts the octets bs at place n: its answer r, the place behind them, and the buffer that it leaves, last.
pub record Spelled (bs : List ℕ) (n : ℕ) (out : List ℕ) (r : ℕ) (last : List ℕ) : Type 0 where
  pub place : r ≡ place_after (length bs) n (length out)
  pub octets : last ≡ buffer_after bs n out

-- A function that puts the octets bs behind a text, in the buffer that is lent to it.
pub record Grown (bs : List ℕ) (old new : Text) : Type 0 where
  pub spelled : Spelled bs old.len old.space.now new.len new.space.now
  pub same_space : new.space.ghost_name ≡ old.space.ghost_name
