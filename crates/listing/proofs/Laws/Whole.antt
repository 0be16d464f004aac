-- No line is ever cut: the lines of whatever a step hands over in 65,536 octets of room, of any deck of octets, find place in `item_space` octets.
--     item_held      its numbers are such as the code can hold
--     item_whole     its lines
--     last_whole     the last line, of numbers that the code can hold
-- Assumes nothing.
use mathlib.Core.Path.{◌≡◌, refl}
use mathlib.Core.Bool.{Bool, true, false}
use mathlib.Core.Logic.{⊎_elim}
use mathlib.Core.List.{List}
use Prim.Native.Nat.{ℕ, ◌*◌, ◌^◌, ◌≤◌, ◌<◌}
use native.Mathlib.Omega.{arith}
use lib.ListN.{length}
use borrow.Author.Tests.{lt-ltb, le-ltb}
use Rattle.std.specs.Prelude.{Result, Ok, Err}
use Rattle.listing.specs.Lines.{total_line}
use Rattle.listing.specs.Listing.{item_lines}
use Rattle.listing.specs.Filling.{item_space}
use Rattle.octets.specs.Octets.{Octets}
use Rattle.octets.specs.Numbers.{largest}
use Rattle.blocks.specs.Record.{profile_in, certificate_octets, issuer_octets}
use Rattle.blocks.proofs.Laws.Logic.{below_or_not}
use Rattle.lint.specs.declared.reasons.Refusal.{Refusal}
use Rattle.lint.specs.Answers.{answer_of}
use Rattle.lint.proofs.Laws.Bounds.{count_fits, refusal_low}
use Rattle.reader.specs.Runs.{from, starts, record_from}
use Rattle.reader.specs.Events.{event_if}
use Rattle.reader.specs.Stepping.{item_of, item_at}
use Rattle.reader.proofs.Laws.Octets.{record_octets, number_small}
use Rattle.listing.proofs.Laws.Lines.{number_in, Held, item_long, item_fits, total_long}

answer_held : (certificate issuer : List ℕ) (profile : ℕ) (room : List ℕ) → length room ≤ 65536 → number_in (answer_of certificate issuer profile room) < 2 ^ 64
answer_held certificate issuer profile room h = go (answer_of certificate issuer profile room) refl
  where
    go : (a : Result ℕ Refusal) → answer_of certificate issuer profile room ≡ a → number_in a < 2 ^ 64
    go (Ok count) e = omega (arith, count_fits certificate issuer profile room count e)
    go (Err r) e = omega (arith, refusal_low certificate issuer profile room r e)

module _ (deck : List ℕ) (o : Octets deck) (position : ℕ) (room : List ℕ) (h : length room ≤ 65536) where
  event_held : 512 * position < length deck → (t : Bool) → Held (item_of room (event_if t position (from deck position)))
  event_held k true =
      let p : List ℕ = record_from (from deck position) in (
        omega (arith, number_small deck o position k),
        record_octets deck o position 0,
        answer_held (certificate_octets p) (issuer_octets p) (profile_in p) room h,
      )
  event_held k false = tt

  pub item_held : Held (item_at deck position room)
  unfolding item_at
  item_held =
      ⊎_elim
      (λ (k : 512 * position < length deck). rw (lt-ltb (512 * position) (length deck) k) (event_held k (starts (from deck position))))
      (λ (k : length deck ≤ 512 * position). rw (le-ltb (512 * position) (length deck) k) tt)
      (below_or_not (512 * position) (length deck))

  pub item_whole : (left : List ℕ) → position ≤ largest → Octets left → length (item_lines position (item_at deck position room) left) ≤ item_space
  item_whole left l k =
      omega (arith, item_long position (item_at deck position room) left (omega arith) item_held k, item_fits deck position room)

pub last_whole : (records lost total : ℕ) → records ≤ largest → lost ≤ largest → total ≤ largest
    → length (total_line (record { records = records; lost = lost }) total) ≤ item_space
last_whole records lost total r l t =
    omega (arith, total_long (record { records = records; lost = lost }) total (omega arith) (omega arith) (omega arith))
