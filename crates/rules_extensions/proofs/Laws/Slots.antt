-- A rule for each slot: the loop, and what is asked of them.
--     slots_turn, slots_end      one slot more, and none left
--     slots_ok                   what is asked of each is asked of all
-- Assumes nothing.
use mathlib.Core.Path.{◌≡◌}
use mathlib.Core.List.{List, [], ◌∷◌, map}
use Prim.Native.Nat.{ℕ, zero, suc, ◌+◌, ◌-◌, ◌≤◌, ◌<◌}
use native.Mathlib.Omega.{arith}
use Rattle.certificate.specs.Slots.{numbers_from, slot_count}
use Rattle.der.specs.declared.header.Head.{Head}
use Rattle.profiles.specs.declared.fields.Profile.{Profile}
use Rattle.report.specs.Rows.{Row, findings_of}
use Rattle.report.specs.Sinks.{SinkPuts}
use Rattle.report.specs.declared.sink.Sink.{Sink}
use Rattle.report.proofs.Terms.Rows.{RowOk, RowsOk}
use Rattle.report.proofs.Terms.Rows.RowsOk.{no_rows, more_rows}
use Rattle.report.specs.declared.sink.Entry.{Entry}
use Rattle.report.proofs.Laws.Sinks.{Left, left_row, left_rows}

-- the rules of the slots from k on
unfoldable pub rows_from : (ℕ → Row) → ℕ → List Row
rows_from f k = map f (numbers_from k (slot_count - k))

module _ (f : ℕ → Row) (k : ℕ) where
  one_more_lem : k < slot_count → rows_from f k ≡ f k ∷ rows_from f (k + 1)
  unfolding rows_from numbers_from
  one_more_lem l =
      let e : slot_count - k ≡ suc (slot_count - (k + 1)) = omega arith in
      rw e

  none_left : slot_count ≤ k → rows_from f k ≡ []
  unfolding rows_from numbers_from
  none_left l =
      let e : slot_count - k ≡ 0 = omega arith in
      rw e

  module _ (p : Profile) {old sink : Sink} where
    pub slots_turn :
        {last : Sink} {all : List Entry} → k < slot_count → Left (findings_of p (rows_from f k)) all old sink
        → SinkPuts p (f k ∷ []) sink last → Left (findings_of p (rows_from f (k + 1))) all old last
    slots_turn l r x = left_row p (f k) (rows_from f (k + 1)) (rw (one_more_lem l) at r) x

    pub slots_end : {rs : List Row} → slot_count ≤ k → Left (findings_of p (rows_from f k)) (findings_of p rs) old sink → SinkPuts p rs old sink
    slots_end l r = left_rows p (rw (none_left l) at r)

module _ {P : Head → Type 0} (f : ℕ → Row) (ok : (k : ℕ) → 0 < k → k < slot_count → RowOk P (f k)) where
  numbers_ok : (k n : ℕ) → 0 < k → k + n ≤ slot_count → RowsOk P (map f (numbers_from k n))
  unfolding numbers_from
  numbers_ok k zero m l = no_rows
  numbers_ok k (suc n) m l = more_rows (ok k m (omega arith)) (numbers_ok (k + 1) n (omega arith) (omega arith))

  pub slots_ok : RowsOk P (rows_from f 1)
  unfolding rows_from
  slots_ok = numbers_ok 1 (slot_count - 1) (omega arith) (omega arith)
