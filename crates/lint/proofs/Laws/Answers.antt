-- The linter's answer to findings, by its two passes. The first, over no room, counts n and leaves `left`, which is empty; `fit` is whether n
-- entries have room.
--     reported_short       they have none: refusal 7
--     reported_written     they have, and the second pass has written them
--     reported_none        nothing was counted, so there is nothing to write
-- Assumes nothing.
use mathlib.Core.Path.{◌≡◌}
use mathlib.Core.List.{List, [], ◌++◌}
use mathlib.Core.Bool.{Bool, true, false, not}
use Prim.Native.Nat.{ℕ, ◌*◌, ◌≤◌, ◌<◌, ◌^◌}
use lib.Dec.{leb}
use lib.ListN.{length}
use borrow.Author.Tests.{not-true, not-false}
use Rattle.std.specs.Prelude.{Ok, Err}
use Rattle.lint.specs.Answers.{answer_to}
use Rattle.lint.specs.Workings.Answers.{Reported}
use Rattle.lint.specs.declared.reasons.Refusal.TheVariants.{NoRoom}
use Rattle.report.specs.declared.sink.Entry.{Entry}
use Rattle.report.specs.Entries.{width}
use Rattle.report.specs.Putting.{Put}
use Rattle.report.proofs.Laws.Passes.{pass_short, pass_written, pass_none}

module _ (es : List Entry) (room : List ℕ) {n : ℕ} {left : List ℕ} {fit : Bool}
    (p : Put es 0 [] n left) (t : fit ≡ leb (width * n) (length (left ++ room))) where
  pub reported_short : not fit ≡ true → Reported es room (Err NoRoom) (left ++ room)
  unfolding answer_to
  reported_short f =
      let q = pass_short es room p t (not-true fit f) in
      record { told = rw q.short; bytes = q.bytes }

  pub reported_written : {m : ℕ} {last : List ℕ} → not fit ≡ false → length room < 2 ^ 63 → Put es 0 (left ++ room) m last → Reported es room (Ok n) last
  unfolding answer_to
  reported_written f small w =
      let q = pass_written es room p t (not-false fit f) small w in
      record { told = rw (q.enough, q.count); bytes = q.bytes }

  pub reported_none : not fit ≡ false → length room < 2 ^ 63 → n ≤ 0 → Reported es room (Ok n) (left ++ room)
  unfolding answer_to
  reported_none f small z =
      let q = pass_none es room p t (not-false fit f) small z in
      record { told = rw (q.enough, q.count); bytes = q.bytes }
