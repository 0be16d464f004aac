-- Sinks: the laws of appending, and that the room is still the caller's.
--     sink_noted, sink_not                        one element's entry is put, or not, by a test
--     sink_at, sink_judged, sink_unjudged, sink_empty     a rule on one element; on many, in a profile that judges it, and in one that does not; that nothing breaks
--     by_rows                                     a law of rows, of a sink
--     sink_join                                   entries, and then others
--     _⋙_, sink_same_rule                         rules, and then others; one rule, in two steps
--     Left                                        loops: what is still to be put, against what was to be put at the start
--     left_start, left_step, left_end             of entries
--     left_row, left_rows                         of rules: one more, and none left
-- Assumes nothing.
use mathlib.Core.Path.{◌≡◌, refl, ◌∙◌}
use mathlib.Core.List.{List, [], ◌∷◌, ◌++◌, map}
use mathlib.Core.Bool.{Bool, true, false, ◌&&◌}
use Prim.Native.Nat.{ℕ}
use Rattle.report.specs.declared.sink.Entry.{Entry}
use Rattle.report.specs.declared.sink.Sink.{Sink}
use Rattle.report.specs.Entries.{entry_at, noted}
use Rattle.report.specs.Rows.{Row, ◌⦂◌, broken_at, findings_of, Puts}
use Rattle.report.specs.Sinks.{SinkPut, SinkPuts}
use Rattle.report.proofs.Laws.Putting.{put_noted, put_not, ◌⨾◌, Rest, rest_start, rest_step, rest_end}
use Rattle.report.proofs.Laws.Rows.{puts_at, puts_judged, puts_unjudged, puts_empty, ◌⟫◌, same_rule, rest_row, puts_rest}
use Rattle.der.specs.declared.header.Head.{Head}
use Rattle.profiles.specs.Judged.{judges}
use Rattle.profiles.specs.declared.fields.Profile.{Profile}

module _ (rule : ℕ) (bad : Bool) (h : Head) where
  pub sink_noted : {s t : Sink} {e : Entry} → bad ≡ true → e ≡ entry_at rule h → SinkPut (e ∷ []) s t → SinkPut (noted rule bad h) s t
  sink_noted b q x = record { put = put_noted rule bad h b q x.put; same_reference = x.same_reference }

  pub sink_not : (s : Sink) → bad ≡ false → SinkPut (noted rule bad h) s s
  sink_not s b = record { put = put_not rule bad h s.count s.room.now b; same_reference = refl }

  pub sink_at : {s t : Sink} (p : Profile) → SinkPut (noted rule (judges p rule && bad) h) s t → SinkPuts p (rule ⦂ broken_at bad h ∷ []) s t
  sink_at p x = record { puts = puts_at p rule bad h x.put; same_reference = x.same_reference }

pub sink_judged : {s t : Sink} (p : Profile) (rule : ℕ) (hs : List Head) → judges p rule ≡ true → SinkPut (map (entry_at rule) hs) s t
    → SinkPuts p (rule ⦂ hs ∷ []) s t
sink_judged p rule hs j x = record { puts = puts_judged p rule hs j x.put; same_reference = x.same_reference }

pub sink_unjudged : (p : Profile) (rule : ℕ) (hs : List Head) (s : Sink) → judges p rule ≡ false → SinkPuts p (rule ⦂ hs ∷ []) s s
sink_unjudged p rule hs s j = record { puts = puts_unjudged p rule hs s.count s.room.now j; same_reference = refl }

pub sink_empty : (p : Profile) (rule : ℕ) (s : Sink) → SinkPuts p (rule ⦂ [] ∷ []) s s
sink_empty p rule s = record { puts = puts_empty p rule s.count s.room.now; same_reference = refl }

pub by_rows : {p : Profile} {rs qs : List Row} {s t : Sink}
    → (Puts p rs s.count s.room.now t.count t.room.now → Puts p qs s.count s.room.now t.count t.room.now) → SinkPuts p rs s t → SinkPuts p qs s t
by_rows f x = record { puts = f x.puts; same_reference = x.same_reference }

pub sink_join : {es fs : List Entry} {s t u : Sink} → SinkPut es s t → SinkPut fs t u → SinkPut (es ++ fs) s u
sink_join x y = record { put = x.put ⨾ y.put; same_reference = y.same_reference ∙ x.same_reference }

module _ {p : Profile} {s t u : Sink} where
  pub ◌⋙◌ : {rs qs : List Row} → SinkPuts p rs s t → SinkPuts p qs t u → SinkPuts p (rs ++ qs) s u
  ◌⋙◌ x y = record { puts = x.puts ⟫ y.puts; same_reference = y.same_reference ∙ x.same_reference }

  pub sink_same_rule : {rule : ℕ} {gs hs : List Head} → SinkPuts p (rule ⦂ gs ∷ []) s t → SinkPuts p (rule ⦂ hs ∷ []) t u
      → SinkPuts p (rule ⦂ (gs ++ hs) ∷ []) s u
  sink_same_rule x y = record { puts = same_rule x.puts y.puts; same_reference = y.same_reference ∙ x.same_reference }

infixr 20 ◌⋙◌
-- ---- loops

-- putting es into the sink s ends as putting `all` into the sink at the start, s₀
pub record Left (es all : List Entry) (s₀ s : Sink) : Type 0 where
  pub rest : Rest es s.count s.room.now all s₀.count s₀.room.now
  pub same_reference : s.room.ghost_name ≡ s₀.room.ghost_name

pub left_start : (es : List Entry) (s : Sink) → Left es es s s
left_start es s = record { rest = rest_start es s.count s.room.now; same_reference = refl }

module _ {all : List Entry} {s₀ s : Sink} where
  pub left_step : {es fs : List Entry} {t : Sink} → Left (es ++ fs) all s₀ s → SinkPut es s t → Left fs all s₀ t
  left_step l x = record { rest = rest_step l.rest x.put; same_reference = x.same_reference ∙ l.same_reference }

  pub left_end : Left [] all s₀ s → SinkPut all s₀ s
  left_end l = record { put = rest_end l.rest; same_reference = l.same_reference }

  pub left_row : {t : Sink} (p : Profile) (r : Row) (rs : List Row) → Left (findings_of p (r ∷ rs)) all s₀ s → SinkPuts p (r ∷ []) s t
      → Left (findings_of p rs) all s₀ t
  left_row p r rs l x = record { rest = rest_row p r rs l.rest x.puts; same_reference = x.same_reference ∙ l.same_reference }

pub left_rows : {s₀ s : Sink} {rs : List Row} (p : Profile) → Left (findings_of p []) (findings_of p rs) s₀ s → SinkPuts p rs s₀ s
left_rows p l = record { puts = puts_rest p l.rest; same_reference = l.same_reference }
